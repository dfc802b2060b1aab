-- What was taken of a sender whose end was taken is all that it sent.
use Rattle.std.proofs.Common.{◌≡◌, true, true≢false, ◌||◌, List, [], ◌∷◌, ◌++◌, sym, refl, ap, ◌∙◌}
use Rattle.std.proofs.lemmas.List.Elements.{filter-append}
use Rattle.store_state.specs.Refresh.{Change}
use Rattle.store_gateway.specs.declared.message.SenderId.{SenderId}
use Rattle.store_gateway.specs.declared.message.SenderId.TheVariants.{First, Second}
use Rattle.store_gateway.specs.declared.message.Message.{Message}
use Rattle.store_gateway.specs.declared.message.Message.TheVariants.{Quotas, Refresh, End}
use Rattle.store_gateway.specs.Queue.{is_from, messages_of, refreshes_in}
use Rattle.store_gateway.specs.Roles.{has_end, is_end, sent_messages, sent_by}
use Rattle.store_gateway.proofs.Roles.{sent-ended}

sent-only : (id : SenderId) (ms : List Message) → sent_by id (refreshes_in (messages_of id ms)) ≡ sent_by id (refreshes_in ms)
sent-only First [] = refl
sent-only Second [] = refl
sent-only First (Quotas a b ∷ ms) = sent-only First ms
sent-only Second (Quotas a b ∷ ms) = sent-only Second ms
sent-only First (Refresh First r ∷ ms) = ap (λ l. r ∷ l) (sent-only First ms)
sent-only First (Refresh Second r ∷ ms) = sent-only First ms
sent-only Second (Refresh First r ∷ ms) = sent-only Second ms
sent-only Second (Refresh Second r ∷ ms) = ap (λ l. r ∷ l) (sent-only Second ms)
sent-only First (End First ∷ ms) = sent-only First ms
sent-only First (End Second ∷ ms) = sent-only First ms
sent-only Second (End First ∷ ms) = sent-only Second ms
sent-only Second (End Second ∷ ms) = sent-only Second ms

end-only : (id : SenderId) (ms : List Message) → has_end id (messages_of id ms) ≡ has_end id ms
end-only First [] = refl
end-only Second [] = refl
end-only First (Quotas a b ∷ ms) = end-only First ms
end-only Second (Quotas a b ∷ ms) = end-only Second ms
end-only First (Refresh First r ∷ ms) = end-only First ms
end-only First (Refresh Second r ∷ ms) = end-only First ms
end-only Second (Refresh First r ∷ ms) = end-only Second ms
end-only Second (Refresh Second r ∷ ms) = end-only Second ms
end-only First (End First ∷ ms) = refl
end-only First (End Second ∷ ms) = end-only First ms
end-only Second (End First ∷ ms) = end-only Second ms
end-only Second (End Second ∷ ms) = refl

no-more : (xs ys : List Message) → xs ++ ys ≡ [] → xs ≡ []
no-more [] ys e = refl
no-more (x ∷ xs) ys e = absurd (cc)

-- the end stands at the end alone
to-its-end : (id : SenderId) (xs ys : List Message) (rs : List Change) → has_end id xs ≡ true → xs ++ ys ≡ sent_messages id rs ++ End id ∷ [] → xs ≡ sent_messages id rs ++ End id ∷ []
to-its-end id [] ys rs has is = absurd (true≢false (sym has))
to-its-end id (x ∷ xs) ys [] has is = let e : x ≡ End id = cc in let t : xs ++ ys ≡ [] = cc in let f = no-more xs ys t in λ i. e i ∷ f i
to-its-end id (x ∷ xs) ys (r ∷ rs) has is =
    let e : x ≡ Refresh id r = cc in
    let t : xs ++ ys ≡ sent_messages id rs ++ End id ∷ [] = cc in
    let h : has_end id xs ≡ true = ap (λ m. is_end id m || has_end id xs) (sym e) ∙ has in
    let f = to-its-end id xs ys rs h t in λ i. e i ∷ f i

pub all-sent : (id : SenderId) (got items : List Message) (rs : List Change) → has_end id got ≡ true → messages_of id (got ++ items) ≡ sent_messages id rs ++ End id ∷ [] → sent_by id (refreshes_in got) ≡ rs
all-sent id got items rs has is =
    let e = to-its-end id (messages_of id got) (messages_of id items) rs (end-only id got ∙ has) (sym (filter-append (is_from id) got items) ∙ is) in
    sym (sent-only id got) ∙ (ap (λ l. sent_by id (refreshes_in l)) e ∙ sent-ended id rs)

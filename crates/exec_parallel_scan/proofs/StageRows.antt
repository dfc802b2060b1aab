-- Stages over rows, one after the other.
use Rattle.std.proofs.Common.{◌≡◌, ℕ, ◌+◌, ◌<◌, List, [], ◌∷◌, ◌++◌, refl, sym, ap, ◌∙◌, subst, arith, length, take, get_or}
use Rattle.std.specs.Prelude.{map, min}
use Rattle.std.specs.List.{All}
use Rattle.std.specs.Fork.{IsChunk}
use Rattle.std.proofs.lemmas.List.{map-append, append-nil, append_assoc, take_more, nil_from_length, get_or_default}
use Rattle.std.proofs.lemmas.Grind.{flat_map-append}
use Rattle.base_row_laws.specs.Ranked.{Ranked, ranked, Relation, true_rank}
use Rattle.base_row_laws.specs.Rows.{keep, scanned}
use Rattle.base_value.specs.declared.value.Value.{Value}
use Rattle.base_columns.specs.Bags.{bag_rows, AreWide}
use Rattle.base_columns.specs.Lists.{one_list}
use Rattle.base_columns.proofs.BagLists.{bag_rows-more, segment_wide}
use Rattle.base_columns.proofs.RowLists.{one_list-more}
use Rattle.expr_conditions.specs.Ranks.{rank_of}
use Rattle.expr_scalar.specs.Meaning.{values}
use Rattle.exec_parallel_scan.specs.declared.stages.Stage.{Stage}
use Rattle.exec_parallel_scan.specs.declared.stages.Stage.TheVariants.{Select, Project}
use Rattle.exec_parallel_scan.specs.Stages.{stage_rows, stage_width, staged, staged_width, GiveWidth}

stage-append : (stage : Stage) (xs ys : List (Ranked Value)) → stage_rows stage (xs ++ ys) ≡ stage_rows stage xs ++ stage_rows stage ys
stage-append (Select e) xs ys = flat_map-append (λ x. keep x.values (min x.standing (rank_of e.now x.values))) xs ys
stage-append (Project es) xs ys = map-append (λ x. ranked (values es.now x.values) x.standing) xs ys

stage-none : (stage : Stage) → stage_rows stage [] ≡ []
stage-none (Select e) = refl
stage-none (Project es) = refl

-- stages of rows, one after the other
pub staged-append : (stages : List Stage) (xs ys : List (Ranked Value)) → staged stages (xs ++ ys) ≡ staged stages xs ++ staged stages ys
staged-append [] xs ys = refl
staged-append (s ∷ stages) xs ys = ap (staged stages) (stage-append s xs ys) ∙ staged-append stages (stage_rows s xs) (stage_rows s ys)

pub staged-none : (stages : List Stage) → staged stages [] ≡ []
staged-none [] = refl
staged-none (s ∷ stages) = ap (staged stages) (stage-none s) ∙ staged-none stages

pub staged-push : (stages : List Stage) (s : Stage) (rows : List (Ranked Value)) → staged (stages ++ s ∷ []) rows ≡ stage_rows s (staged stages rows)
staged-push [] s rows = refl
staged-push (t ∷ stages) s rows = staged-push stages s (stage_rows t rows)

pub width-push : (stages : List Stage) (s : Stage) (width : ℕ) → staged_width (stages ++ s ∷ []) width ≡ stage_width s (staged_width stages width)
width-push [] s width = refl
width-push (t ∷ stages) s width = width-push stages s (stage_width t width)

-- a stage more
pub staged-more : (stages : List Stage) (k : ℕ) (s : Stage) (rows : List (Ranked Value)) → k < length stages → s ≡ get_or stages k s
    → staged (take (k + 1) stages) rows ≡ stage_rows s (staged (take k stages) rows)
staged-more stages k s rows h is =
    ap (λ l. staged l rows) (take_more stages k s h ∙ ap (λ t. take k stages ++ t ∷ []) (sym is)) ∙ staged-push (take k stages) s rows

pub width-more : (stages : List Stage) (k : ℕ) (s : Stage) (width : ℕ) → k < length stages → s ≡ get_or stages k s
    → staged_width (take (k + 1) stages) width ≡ stage_width s (staged_width (take k stages) width)
width-more stages k s width h is =
    ap (λ l. staged_width l width) (take_more stages k s h ∙ ap (λ t. take k stages ++ t ∷ []) (sym is)) ∙ width-push (take k stages) s width

one_list-append : {A : Type 0} (xss yss : List (List A)) → one_list (xss ++ yss) ≡ one_list xss ++ one_list yss
one_list-append [] yss = refl
one_list-append (xs ∷ xss) yss = ap (λ zs. xs ++ zs) (one_list-append xss yss) ∙ sym (append_assoc xs (one_list xss) (one_list yss))

pub bag_rows-append : (bs cs : List (Relation Value)) → bag_rows (bs ++ cs) ≡ bag_rows bs ++ bag_rows cs
bag_rows-append bs cs = ap one_list (map-append (λ b. b.rows) bs cs) ∙ one_list-append (map (λ b. b.rows) bs) (map (λ b. b.rows) cs)

-- stages of batches, one after the other
pub staged_batches-append : (stages : List Stage) (bs cs : List (Relation Value)) → staged stages (bag_rows (bs ++ cs)) ≡ staged stages (bag_rows bs) ++ staged stages (bag_rows cs)
staged_batches-append stages bs cs = ap (staged stages) (bag_rows-append bs cs) ∙ staged-append stages (bag_rows bs) (bag_rows cs)

-- stages of pieces, one after the other
pub staged_pieces-append : (stages : List Stage) (ps qs : List (List (List Value))) → staged stages (scanned (one_list (ps ++ qs))) ≡ staged stages (scanned (one_list ps)) ++ staged stages (scanned (one_list qs))
staged_pieces-append stages ps qs =
    ap (λ l. staged stages (scanned l)) (one_list-append ps qs) ∙ ap (staged stages) (map-append (λ r. ranked r true_rank) (one_list ps) (one_list qs))
    ∙ staged-append stages (scanned (one_list ps)) (scanned (one_list qs))

-- a batch has the width of all
pub batch_wide : (w : ℕ) (batches : List (Relation Value)) (k : ℕ) (batch : Relation Value) → AreWide w batches → k < length batches → batch ≡ get_or batches k batch → batch.width ≡ w
batch_wide w batches k batch all h is = ap (λ b. b.width) is ∙ all k batch h

-- a batch more
pub staged_batch_more : (stages : List Stage) (batches : List (Relation Value)) (k : ℕ) (batch : Relation Value) (done rows now : List (Ranked Value)) → k < length batches → batch ≡ get_or batches k batch
    → done ≡ staged stages (bag_rows (take k batches)) → rows ≡ staged stages batch.rows → now ≡ done ++ rows → now ≡ staged stages (bag_rows (take (k + 1) batches))
staged_batch_more stages batches k batch done rows now h is d r n =
    n ∙ ap (λ l. l ++ rows) d ∙ ap (λ l. staged stages (bag_rows (take k batches)) ++ l) r
    ∙ sym (staged-append stages (bag_rows (take k batches)) batch.rows) ∙ ap (staged stages) (sym (bag_rows-more batches k batch h is))

-- a piece more
pub staged_piece_more : (stages : List Stage) (pieces : List (List (List Value))) (k : ℕ) (piece : List (List Value)) (done rows now : List (Ranked Value)) → k < length pieces → piece ≡ get_or pieces k piece
    → done ≡ staged stages (scanned (one_list (take k pieces))) → rows ≡ staged stages (scanned piece) → now ≡ done ++ rows → now ≡ staged stages (scanned (one_list (take (k + 1) pieces)))
staged_piece_more stages pieces k piece done rows now h is d r n =
    n ∙ ap (λ l. l ++ rows) d ∙ ap (λ l. staged stages (scanned (one_list (take k pieces))) ++ l) r
    ∙ sym (staged-append stages (scanned (one_list (take k pieces))) (scanned piece))
    ∙ ap (staged stages) (sym (map-append (λ r. ranked r true_rank) (one_list (take k pieces)) piece))
    ∙ ap (λ l. staged stages (scanned l)) (ap (λ p. one_list (take k pieces) ++ p) (is ∙ get_or_default pieces k piece [] h) ∙ sym (one_list-more pieces k h))

-- an empty piece
pub no_piece : (stages : List Stage) (pieces : List (List (List Value))) (k : ℕ) (piece : List (List Value)) (done : List (Ranked Value)) → k < length pieces → piece ≡ get_or pieces k piece
    → length piece ≡ 0 → done ≡ staged stages (scanned (one_list (take k pieces))) → done ≡ staged stages (scanned (one_list (take (k + 1) pieces)))
no_piece stages pieces k piece done h is z d =
    staged_piece_more stages pieces k piece done [] done h is d
    (sym (staged-none stages) ∙ ap (λ p. staged stages (scanned p)) (sym (nil_from_length piece z))) (sym (append-nil done))

-- a chunk of wide batches
pub chunk_wide : (w size start : ℕ) (batches chunk : List (Relation Value)) → AreWide w batches → IsChunk batches size start chunk → AreWide w chunk
chunk_wide w size start batches chunk all is k d h =
    ap (λ b. b.width) (is.elements k d h) ∙ all (start + k) d (let b = is.in_bounds in omega (arith, b, h))

-- a chunk of pieces that give a width
pub chunk_gives : (stages : List Stage) (after size start : ℕ) (pieces chunk : List (List (List Value))) → GiveWidth stages after pieces → IsChunk pieces size start chunk → GiveWidth stages after chunk
chunk_gives stages after size start pieces chunk all is k d h =
    subst (λ piece. (width : ℕ) → 0 < length piece → All (λ row. length row ≡ width) piece → staged_width stages width ≡ after) (sym (is.elements k d h))
    (all (start + k) d (let b = is.in_bounds in omega (arith, b, h)))

-- the width that a piece's rows have after all stages
pub piece_gives : (stages : List Stage) (after : ℕ) (pieces : List (List (List Value))) (k : ℕ) (piece : List (List Value)) (width : ℕ) → GiveWidth stages after pieces → k < length pieces → piece ≡ get_or pieces k piece
    → 0 < length piece → All (λ row. length row ≡ width) piece → staged_width stages width ≡ after
piece_gives stages after pieces k piece width gives h is some wide =
    subst (λ p. (w : ℕ) → 0 < length p → All (λ row. length row ≡ w) p → staged_width stages w ≡ after) (sym is) (gives k piece h) width some wide

-- pieces of rows of one width
pub pieces_give : (stages : List Stage) (n : ℕ) (pieces : List (List (List Value))) → All (λ row. length row ≡ n) (one_list pieces) → GiveWidth stages (staged_width stages n) pieces
pieces_give stages n pieces all k d h width some wide =
    ap (staged_width stages)
    (segment_wide (one_list pieces) pieces k n width (get_or pieces k d) refl all h (get_or_default pieces k d (get_or pieces k d) h) some wide)

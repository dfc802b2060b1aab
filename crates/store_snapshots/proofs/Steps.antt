-- A step that keeps the opening, shortens no list and lowers no version keeps the rule.
use Rattle.std.proofs.Common.{◌≡◌, ◌≢◌, ℕ, ◌<◌, ◌≤◌, List, [], ◌∷◌, ◌++◌, Some, None, length, set, zero-le, refl, subst, ⊎_elim, ap, le_refl, le_trans, ◌∙◌, sym, arith, length-append}
use mathlib.Core.Option.{some, some-ne-none}
use lib.ListN.{get_elem?}
use Rattle.atomic_table.proofs.Lists.{at_set, at_snoc}
use Rattle.base_schema.specs.State.{State}
use Rattle.store_state.specs.Prefixes.{IsPrefix}
use Rattle.store_state.specs.Refresh.{Change}
use Rattle.store_versions.specs.Trials.{Trials, offered, one_more, version_of}
use Rattle.store_snapshots.specs.declared.shelf.ShelfView.{ShelfView}
use Rattle.store_snapshots.specs.Openings.{IsOf, Opening, opening_at}
use Rattle.store_snapshots.specs.Rule.{AllFit, Fits, KnowsVersion, MayFollow, SeesVersion, entered, named_only, own_view}
use Rattle.store_state.proofs.Prefixes.{prefix-refl, prefix-trans}

pub names_kept : (o : Opening) (x y : Trials) → MayFollow x y → IsOf o x → IsOf o y
names_kept opening x y f n o is = let m = n o is in (f.base ∙ m.0, prefix-trans o.1 x.list y.list m.1 f.list, f.most ∙ m.2)

fits_kept : (x y : Trials) (v : ShelfView) → MayFollow x y → Fits x v → Fits y v
fits_kept x y v f h = (names_kept v.opening x y f h.0, prefix-trans v.list x.list y.list h.1 f.list, le_trans h.2 f.later)

pub follows_itself : (x : Trials) → MayFollow x x
follows_itself x = record { base = refl; list = prefix-refl x.list; most = refl; later = le_refl _ }

pub follows_through : (x y z : Trials) → MayFollow x y → MayFollow y z → MayFollow x z
follows_through x y z f g = record {
  base = g.base ∙ f.base;
  list = prefix-trans x.list y.list z.list f.list g.list;
  most = g.most ∙ f.most;
  later = le_trans f.later g.later;
}

pub follows_same : (x y : Trials) → y ≡ x → MayFollow x y
follows_same x y is = subst (MayFollow x) (sym is) (follows_itself x)

-- a refresh was tried
pub follows_after : (x y z : Trials) → MayFollow x y → z ≡ one_more y → version_of y ≤ version_of z → MayFollow x z
follows_after x y z f is up = record {
  base = ap (λ (t : Trials). t.base) is ∙ f.base;
  list = subst (IsPrefix x.list) (sym (ap (λ (t : Trials). t.list) is)) f.list;
  most = ap (λ (t : Trials). t.most) is ∙ f.most;
  later = le_trans f.later up;
}

-- a refresh stands at the list's end
pub follows_offered : (change : Change) (x y : Trials) → y ≡ offered change x → version_of y ≡ version_of x → MayFollow x y
follows_offered change x y is same = record {
  base = ap (λ (t : Trials). t.base) is;
  list = subst (IsPrefix x.list) (sym (ap (λ (t : Trials). t.list) is)) (change ∷ [], refl);
  most = ap (λ (t : Trials). t.most) is;
  later = subst (λ n. version_of x ≤ n) (sym same) (le_refl _);
}

pub left_offered : (change : Change) (x y : Trials) → y ≡ offered change x → x.done ≡ length x.list → y.done < length y.list
left_offered change x y is all =
    let d = ap (λ (t : Trials). t.done) is in
    let l = ap (λ (t : Trials). length t.list) is in
    let n = length-append x.list (change ∷ []) in
    omega (arith, d, l, n, all)

kept : (seat : ℕ) (w : ShelfView) (x y : Trials) (views : List ShelfView) → AllFit x views → MayFollow x y → Fits y w → AllFit y (set views seat w)
kept seat w x y views h f fits j u e =
    ⊎_elim
    (λ (t : (j ≡ seat) × (w ≡ u)). subst (Fits y) t.1 fits)
    (λ (t : (j ≢ seat) × (get_elem? views j ≡ some u)). fits_kept x y u f (h j u t.1))
    (at_set views seat j w u e)

pub enters : (seat : ℕ) (v : ShelfView) (x : Trials) (views : List ShelfView) → AllFit x views → get_elem? views seat ≡ some v
    → (w : ShelfView) × AllFit x (set views seat w) × SeesVersion v x w
enters seat v x views h at =
    let f = h seat v at in (
      entered v x,
      kept seat (entered v x) x x views h (follows_itself x) (f.0, prefix-refl x.list, le_refl _),
      (f, refl),
    )

pub of_itself : (y : Trials) → IsOf (opening_at y) y
of_itself y o is =
    let first : Opening → State × List Change × ℕ = λ k. elim k [ Some p ↦ p | None ↦ (y.base, y.list, y.most) ] in (
      ap (λ k. (first k).0) is,
      subst (λ l. IsPrefix l y.list) (ap (λ k. (first k).1) is) (prefix-refl y.list),
      ap (λ k. (first k).2) is,
    )

pub names_it : (seat : ℕ) (x y : Trials) (views : List ShelfView) → AllFit x views → y ≡ x → (w : ShelfView) × AllFit y (set views seat w) × KnowsVersion y w
names_it seat x y views h e =
    let k = subst (λ (d : Trials). AllFit d views) (sym e) h in (
      own_view y,
      kept seat (own_view y) y y views k (follows_itself y) (of_itself y, prefix-refl y.list, le_refl _),
      refl,
    )

pub fits_nobody : (d : Trials) → Fits d (record { opening = None; list = []; number = 0 })
fits_nobody d = (λ o is. cc, (d.list, refl), zero-le)

pub admitted : (x : Trials) (w : ShelfView) (views : List ShelfView) → AllFit x views → Fits x w → AllFit x (views ++ w ∷ [])
admitted x w views h fits j u e = ⊎_elim (h j u) (λ (same : w ≡ u). subst (Fits x) same fits) (at_snoc views w u j e)

put : (seat : ℕ) (w : ShelfView) (x : Trials) (views : List ShelfView) → AllFit x views → Fits x w → AllFit x (set views seat w)
put seat w x views h fits = kept seat w x x views h (follows_itself x) fits

pub forks : (seat : ℕ) (v : ShelfView) (x : Trials) (views : List ShelfView) → AllFit x views → get_elem? views seat ≡ some v
    → AllFit x (set views seat v ++ v ∷ [])
forks seat v x views h at = admitted x v (set views seat v) (put seat v x views h (h seat v at)) (h seat v at)

there_fits : (seat other : ℕ) (w u : ShelfView) (x : Trials) (views : List ShelfView) → AllFit x views → (other ≢ seat) → get_elem? (set views seat u) other ≡ some w → Fits x w
there_fits seat other w u x views h apart there =
    ⊎_elim
    (λ (t : (other ≡ seat) × (u ≡ w)). absurd (apart t.0))
    (λ (t : (other ≢ seat) × (get_elem? views other ≡ some w)). h other w t.1)
    (at_set views seat other u w there)

-- the opening and the list alone are known too
pub joins : (seat other : ℕ) (w : ShelfView) (x : Trials) (views : List ShelfView) → AllFit x views → (other ≢ seat) → get_elem? (set views seat (named_only w)) other ≡ some w
    → AllFit x (set (set views seat (named_only w)) other (record { opening = None; list = []; number = 0 }))
joins seat other w x views h apart there =
    let fits = there_fits seat other w (named_only w) x views h apart there in
    put other (record { opening = None; list = []; number = 0 }) x (set views seat (named_only w)) (put seat (named_only w) x views h (fits.0, fits.1, zero-le)) (fits_nobody x)

pub moves : (seat : ℕ) (v : ShelfView) (x y : Trials) (views : List ShelfView) → AllFit x views → get_elem? views seat ≡ some v → MayFollow x y
    → (w : ShelfView) × AllFit y (set views seat w) × (w ≡ entered v y)
moves seat v x y views h at f =
    let k = h seat v at in (
      entered v y,
      kept seat (entered v y) x y views h f (names_kept v.opening x y f k.0, prefix-refl y.list, le_refl _),
      refl,
    )

pub nowhere : (d : Trials) → AllFit d []
nowhere d seat v at = absurd (some-ne-none v (sym at))

-- Groups that lie side by side, and one of them changed.
use Rattle.std.proofs.Common.{◌≡◌, ℕ, ◌+◌, ◌-◌, ◌^◌, ◌<◌, ◌≤◌, Fits, w64, List, [], ◌∷◌, ◌++◌, refl, sym, ◌∙◌, ap, arith, zero, suc, set, Some, None, Option}
use Rattle.std.specs.Prelude.{map, min, slice_get}
use Rattle.std.specs.List.{remove}
use lib.ListN.{length, drop, take, get_or}
use borrow.Rule.Slice.PartMut.{put_mid}
use Rattle.std.proofs.lemmas.List.{length-append, length-map, length-set, length-take-le, take_all, take_at, take-append-le, drop_at, drop-append-le, drop-drop, length-drop, drop-map, take-map, map-append}
use Rattle.base_value.specs.Truth.{standing_rank}
use Rattle.store_groups.specs.declared.head.Head.{Head}
use Rattle.store_groups.specs.Groups.{Cell, Group, group, with_row, with_values, without_row, without_values}
use Rattle.base_value.specs.declared.value.Value.{Value}
use Rattle.store_groups.specs.Shelves.{groups_in, part_of, total, with_part}

-- a head with these cells
abbrev pub seen : Head → List Cell → Group
seen h cs = group h.rows (standing_rank h.least) cs

pub groups_long : (hs : List Head) (cs : List Cell) → length (groups_in hs cs) ≡ length hs
groups_long [] cs = refl
groups_long (h ∷ hs) cs = ap suc (groups_long hs (drop h.count cs))

total_suc : (hs : List Head) (i : ℕ) (h : Head) → i < length hs → h ≡ get_or hs i h → total (take (suc i) hs) ≡ total (take i hs) + h.count
total_suc [] i h less is = absurd (omega arith)
total_suc (x ∷ hs) zero h less is = let e : x.count ≡ h.count = ap (λ (y : Head). y.count) (sym is) in omega (arith, e)
total_suc (x ∷ hs) (suc i) h less is = let e = total_suc hs i h (omega arith) is in omega (arith, e)

pub total_more : (hs : List Head) (i : ℕ) (h : Head) → i < length hs → h ≡ get_or hs i h → total (take (i + 1) hs) ≡ total (take i hs) + h.count
total_more hs i h less is = let s : i + 1 ≡ suc i = omega arith in ap (λ n. total (take n hs)) s ∙ total_suc hs i h less is

pub total_part : (hs : List Head) (i : ℕ) → total (take i hs) ≤ total hs
total_part [] zero = omega arith
total_part [] (suc i) = omega arith
total_part (x ∷ hs) zero = omega arith
total_part (x ∷ hs) (suc i) = let e = total_part hs i in omega (arith, e)

pub total_within : (hs : List Head) (i : ℕ) (h : Head) → i < length hs → h ≡ get_or hs i h → total (take i hs) + h.count ≤ total hs
total_within hs i h less is = let e = total_suc hs i h less is in let p = total_part hs (suc i) in omega (arith, e, p)

pub total_set : (hs : List Head) (i : ℕ) (h new : Head) → i < length hs → h ≡ get_or hs i h → new.count ≡ h.count → total (set hs i new) ≡ total hs
total_set [] i h new less is same = absurd (omega arith)
total_set (x ∷ hs) zero h new less is same = let e : x.count ≡ h.count = ap (λ (y : Head). y.count) (sym is) in ap (λ n. n + total hs) (same ∙ sym e)
total_set (x ∷ hs) (suc i) h new less is same = ap (λ n. x.count + n) (total_set hs i h new (omega arith) is same)

pub total_last : (hs : List Head) (h : Head) → total (hs ++ h ∷ []) ≡ total hs + h.count
total_last [] h = omega arith
total_last (x ∷ hs) h = let e = total_last hs h in omega (arith, e)

pub total_removed : (hs : List Head) (i : ℕ) (h : Head) → i < length hs → h ≡ get_or hs i h → total (remove hs i) + h.count ≡ total hs
total_removed [] i h less is = absurd (omega arith)
total_removed (x ∷ hs) zero h less is = let e : x.count ≡ h.count = ap (λ (y : Head). y.count) (sym is) in omega (arith, e)
total_removed (x ∷ hs) (suc i) h less is = let e = total_removed hs i h (omega arith) is in omega (arith, e)

-- the head at a place, whatever stands for one that is not there
any_head : (hs : List Head) (i : ℕ) (d e : Head) → i < length hs → get_or hs i d ≡ get_or hs i e
any_head [] i d e less = absurd (omega arith)
any_head (x ∷ hs) zero d e less = refl
any_head (x ∷ hs) (suc i) d e less = any_head hs i d e (omega arith)

pub sum_more : (hs : List Head) (i s : ℕ) (d : Head) → i < length hs → s ≡ total (take i hs) → s + (get_or hs i d).count ≡ total (take (i + 1) hs)
sum_more hs i s d less is = ap (λ n. n + (get_or hs i d).count) is ∙ sym (total_more hs i (get_or hs i d) less (any_head hs i d (get_or hs i d) less))

pub sum_within : (hs : List Head) (i s n : ℕ) (d : Head) → i < length hs → s ≡ total (take i hs) → total hs ≤ n → s + (get_or hs i d).count ≤ n
sum_within hs i s n d less is few = let w = total_within hs i (get_or hs i d) less (any_head hs i d (get_or hs i d) less) in omega (arith, w)

pub sum_fits : (hs : List Head) (i s : ℕ) (d : Head) → i < length hs → s ≡ total (take i hs) → total hs < 2 ^ 64 → Fits w64 (s + (get_or hs i d).count)
sum_fits hs i s d less is fits = let w = total_within hs i (get_or hs i d) less (any_head hs i d (get_or hs i d) less) in omega (arith, w)

-- the group at a place
pub group_here : (hs : List Head) (cs : List Cell) (i : ℕ) (h : Head) → i < length hs → h ≡ get_or hs i h
    → slice_get (groups_in hs cs) i ≡ Some (seen h (take h.count (drop (total (take i hs)) cs)))
group_here [] cs i h less is = absurd (omega arith)
group_here (x ∷ hs) cs zero h less is = ap (λ (y : Head). Some (seen y (take y.count cs))) (sym is)
group_here (x ∷ hs) cs (suc i) h less is =
    group_here hs (drop x.count cs) i h (omega arith) is
    ∙ ap (λ (l : List Cell). Some (seen h (take h.count l))) (drop-drop (total (take i hs)) x.count cs)

-- a part that lies further on
mid_far : (a b n m : ℕ) (cs ys : List Cell) → a + b ≡ m → a ≤ length cs → drop a (put_mid m n cs ys) ≡ put_mid b n (drop a cs) ys
mid_far zero b n m cs ys is less = let e : m ≡ b = omega arith in rw e refl
mid_far (suc a) b n zero cs ys is less = absurd (omega arith)
mid_far (suc a) b n (suc m) [] ys is less = absurd (omega arith)
mid_far (suc a) b n (suc m) (c ∷ cs) ys is less = mid_far a b n m cs ys (omega arith) (omega arith)

mid_before : (a b n m : ℕ) (cs ys : List Cell) → a + b ≡ m → a ≤ length cs → take a (put_mid m n cs ys) ≡ take a cs
mid_before zero b n m cs ys is less = refl
mid_before (suc a) b n zero cs ys is less = absurd (omega arith)
mid_before (suc a) b n (suc m) [] ys is less = absurd (omega arith)
mid_before (suc a) b n (suc m) (c ∷ cs) ys is less = ap (λ l. c ∷ l) (mid_before a b n m cs ys (omega arith) (omega arith))

-- with the group at a place changed
pub changed : (hs : List Head) (cs ys : List Cell) (i : ℕ) (h new : Head) → i < length hs → h ≡ get_or hs i h → new.count ≡ h.count → length ys ≡ h.count → total hs ≤ length cs
    → groups_in (set hs i new) (put_mid (total (take i hs)) h.count cs ys) ≡ set (groups_in hs cs) i (seen new ys)
changed [] cs ys i h new less is same long full = absurd (omega arith)
changed (x ∷ hs) cs ys zero h new less is same long full =
    let e : x.count ≡ h.count = ap (λ (y : Head). y.count) (sym is) in
    ap (λ (l : List Cell). seen new l ∷ groups_in hs (drop new.count (ys ++ drop h.count cs))) (take_at ys (drop h.count cs) new.count (long ∙ sym same))
    ∙ ap (λ (l : List Cell). seen new ys ∷ groups_in hs l) (drop_at ys (drop h.count cs) new.count (long ∙ sym same))
    ∙ ap (λ n. seen new ys ∷ groups_in hs (drop n cs)) (sym e)
changed (x ∷ hs) cs ys (suc i) h new less is same long full =
    let few : x.count ≤ length cs = omega arith in
    let rest : total hs ≤ length (drop x.count cs) = omega (arith, length-drop x.count cs) in
    ap (λ (l : List Cell). seen x l ∷ groups_in (set hs i new) (drop x.count (put_mid (x.count + total (take i hs)) h.count cs ys))) (mid_before x.count (total (take i hs)) h.count (x.count + total (take i hs)) cs ys refl few)
    ∙ ap (λ (l : List Cell). seen x (take x.count cs) ∷ groups_in (set hs i new) l) (mid_far x.count (total (take i hs)) h.count (x.count + total (take i hs)) cs ys refl few)
    ∙ ap (λ gs. seen x (take x.count cs) ∷ gs) (changed hs (drop x.count cs) ys i h new (omega arith) is same long rest)

-- without the group at a place
pub fewer : (hs : List Head) (cs : List Cell) (i : ℕ) (h : Head) → i < length hs → h ≡ get_or hs i h → total hs ≤ length cs
    → groups_in (remove hs i) (put_mid (total (take i hs)) h.count cs []) ≡ remove (groups_in hs cs) i
fewer [] cs i h less is full = absurd (omega arith)
fewer (x ∷ hs) cs zero h less is full =
    let e : h.count ≡ x.count = ap (λ (y : Head). y.count) is in ap (λ n. groups_in hs (drop n cs)) e
fewer (x ∷ hs) cs (suc i) h less is full =
    let few : x.count ≤ length cs = omega arith in
    let rest : total hs ≤ length (drop x.count cs) = omega (arith, length-drop x.count cs) in
    ap (λ (l : List Cell). seen x l ∷ groups_in (remove hs i) (drop x.count (put_mid (x.count + total (take i hs)) h.count cs []))) (mid_before x.count (total (take i hs)) h.count (x.count + total (take i hs)) cs [] refl few)
    ∙ ap (λ (l : List Cell). seen x (take x.count cs) ∷ groups_in (remove hs i) l) (mid_far x.count (total (take i hs)) h.count (x.count + total (take i hs)) cs [] refl few)
    ∙ ap (λ gs. seen x (take x.count cs) ∷ gs) (fewer hs (drop x.count cs) i h (omega arith) is rest)

pub fewer_cells : (hs : List Head) (cs : List Cell) (i n : ℕ) (h : Head) → i < length hs → h ≡ get_or hs i h → total hs ≤ length cs → n ≡ total (take i hs) + h.count
    → groups_in (remove hs i) (take (total (take i hs)) cs ++ drop n cs) ≡ remove (groups_in hs cs) i
fewer_cells hs cs i n h less is full end =
    ap (λ (l : List Cell). groups_in (remove hs i) (take (total (take i hs)) cs ++ l)) (ap (λ m. drop m cs) end ∙ sym (drop-drop h.count (total (take i hs)) cs))
    ∙ fewer hs cs i h less is full

-- with one group more
none_left : (cs : List Cell) → length cs ≡ 0 → cs ≡ []
none_left [] e = refl
none_left (c ∷ cs) e = absurd (omega arith)

pub one_more : (hs : List Head) (cs new : List Cell) (h : Head) → total hs ≡ length cs → h.count ≡ length new → groups_in (hs ++ h ∷ []) (cs ++ new) ≡ groups_in hs cs ++ seen h new ∷ []
one_more [] cs new h full long =
    ap (λ (l : List Cell). seen h (take h.count (l ++ new)) ∷ []) (none_left cs (sym full))
    ∙ ap (λ (l : List Cell). seen h l ∷ []) (take_all h.count new (omega arith))
one_more (x ∷ hs) cs new h full long =
    let few : x.count ≤ length cs = omega arith in
    let rest : total hs ≡ length (drop x.count cs) = omega (arith, length-drop x.count cs) in
    ap (λ (l : List Cell). seen x l ∷ groups_in (hs ++ h ∷ []) (drop x.count (cs ++ new))) (take-append-le x.count cs new few)
    ∙ ap (λ (l : List Cell). seen x (take x.count cs) ∷ groups_in (hs ++ h ∷ []) l) (drop-append-le x.count cs new few)
    ∙ ap (λ gs. seen x (take x.count cs) ∷ gs) (one_more hs (drop x.count cs) new h rest long)

some_group : (x y : Group) → Some x ≡ Some y → x ≡ y
some_group x y e = cc

-- the cells of a group that is there
abbrev pub cells_or : Option Group → List Cell
cells_or None = []
cells_or (Some g) = g.cells

-- a part that is put in the place of another
pub mid_is : {X : Type 0} (s e : ℕ) (cs ys : List X) → s ≤ e → s ≤ length cs → put_mid s (e - s) cs ys ≡ take s cs ++ (ys ++ drop e cs)
mid_is zero e cs ys order less = let n : e - zero ≡ e = omega arith in ap (λ k. ys ++ drop k cs) n
mid_is (suc s) zero cs ys order less = absurd (omega arith)
mid_is (suc s) (suc e) [] ys order less = absurd (omega arith)
mid_is (suc s) (suc e) (c ∷ cs) ys order less =
    let n : suc e - suc s ≡ e - s = omega arith in
    ap (λ k. c ∷ put_mid s k cs ys) n ∙ ap (λ l. c ∷ l) (mid_is s e cs ys (omega arith) (omega arith))

pub map_mid : {X Y : Type 0} (f : X → Y) (s n : ℕ) (cs ys : List X) → s ≤ length cs → map f (put_mid s n cs ys) ≡ put_mid s n (map f cs) (map f ys)
map_mid f zero n cs ys less = map-append f ys (drop n cs) ∙ ap (λ l. map f ys ++ l) (sym (drop-map f n cs))
map_mid f (suc s) n [] ys less = absurd (omega arith)
map_mid f (suc s) n (c ∷ cs) ys less = ap (λ l. f c ∷ l) (map_mid f s n cs ys (omega arith))

pub map_part : {X Y : Type 0} (f : X → Y) (s n : ℕ) (cs : List X) → map f (take n (drop s cs)) ≡ take n (drop s (map f cs))
map_part f s n cs = sym (take-map f n (drop s cs)) ∙ ap (λ l. take n l) (sym (drop-map f s cs))

-- as many cells as before
pub long_with : (cs : List Cell) (vs : List Value) → length (with_values cs vs) ≡ length cs
long_with [] vs = refl
long_with (c ∷ cs) [] = refl
long_with (c ∷ cs) (v ∷ vs) = ap suc (long_with cs vs)

pub long_without : (cs : List Cell) (vs : List Value) → length (without_values cs vs) ≡ length cs
long_without [] vs = refl
long_without (c ∷ cs) [] = refl
long_without (c ∷ cs) (v ∷ vs) = ap suc (long_without cs vs)

-- the group at a place, whose cells lie from s to e
module _ (hs : List Head) (cs : List Cell) (gs : List Group) (i : ℕ) (h : Head) (s e : ℕ) (view : groups_in hs cs ≡ gs) (full : total hs ≡ length cs)
    (less : i < length hs) (is : h ≡ get_or hs i h) (start_is : s ≡ total (take i hs)) (end_is : e ≡ total (take (i + 1) hs)) where
  width : e - s ≡ h.count
  width = let m = total_more hs i h less is in omega (arith, m)

  pub got : slice_get gs i ≡ Some (seen h (part_of s e cs))
  got =
      ap (λ l. slice_get l i) (sym view)
      ∙ group_here hs cs i h less is
      ∙ ap (λ n. Some (seen h (take n (drop (total (take i hs)) cs)))) (sym width)
      ∙ ap (λ n. Some (seen h (take (e - s) (drop n cs)))) (sym start_is)

  own_long : length (part_of s e cs) ≡ e - s
  own_long =
      let m = total_more hs i h less is in
      let w = total_within hs i h less is in
      length-take-le (e - s) (drop s cs) (omega (arith, m, w, length-drop s cs))

  -- it is of this length, where it is the one that is meant
  pub long_part : (n : ℕ) → ((g : Group) → slice_get gs i ≡ Some g → n ≡ length g.cells) → n ≡ e - s
  long_part n long = long (seen h (part_of s e cs)) got ∙ own_long

  set_part : (new : Head) (ys : List Cell) → new.count ≡ h.count → length ys ≡ length (part_of s e cs) → groups_in (set hs i new) (with_part s e ys cs) ≡ set gs i (seen new ys)
  set_part new ys same long =
      let m = total_more hs i h less is in
      let w = total_within hs i h less is in
      ap (λ l. groups_in (set hs i new) l) (sym (mid_is s e cs ys (omega (arith, m)) (omega (arith, m, w))))
      ∙ ap (λ n. groups_in (set hs i new) (put_mid n (e - s) cs ys)) start_is
      ∙ ap (λ n. groups_in (set hs i new) (put_mid (total (take i hs)) n cs ys)) width
      ∙ changed hs cs ys i h new less is same (long ∙ own_long ∙ width) (omega arith)
      ∙ ap (λ l. set l i (seen new ys)) view

  pub total_kept : (new : Head) → new.count ≡ h.count → total (set hs i new) ≡ length cs
  total_kept new same = total_set hs i h new less is same ∙ full

  which : (g : Group) → slice_get gs i ≡ Some g → seen h (part_of s e cs) ≡ g
  which g at = some_group (seen h (part_of s e cs)) g (sym got ∙ at)

  pub put_part : (new : Head) (args : List Value) (r : ℕ) → new.count ≡ h.count → new.rows ≡ h.rows + 1 → standing_rank new.least ≡ min (standing_rank h.least) r
      → (g : Group) → slice_get gs i ≡ Some g → groups_in (set hs i new) (with_part s e (with_values (part_of s e cs) args) cs) ≡ set gs i (with_row g args r)
  put_part new args r same rows least g at =
      set_part new (with_values (part_of s e cs) args) same (long_with (part_of s e cs) args)
      ∙ ap (λ x. set gs i x)
      (ap (λ n. group n (standing_rank new.least) (with_values (part_of s e cs) args)) rows ∙ ap (λ n. group (h.rows + 1) n (with_values (part_of s e cs) args)) least)
      ∙ ap (λ x. set gs i (with_row x args r)) (which g at)

  pub removed_part : (new : Head) (args : List Value) → new.count ≡ h.count → new.rows ≡ h.rows - 1 → standing_rank new.least ≡ standing_rank h.least
      → (g : Group) → slice_get gs i ≡ Some g → groups_in (set hs i new) (with_part s e (without_values (part_of s e cs) args) cs) ≡ set gs i (without_row g args)
  removed_part new args same rows least g at =
      set_part new (without_values (part_of s e cs) args) same (long_without (part_of s e cs) args)
      ∙ ap (λ x. set gs i x)
      (ap (λ n. group n (standing_rank new.least) (without_values (part_of s e cs) args)) rows ∙ ap (λ n. group (h.rows - 1) n (without_values (part_of s e cs) args)) least)
      ∙ ap (λ x. set gs i (without_row x args)) (which g at)

-- the groups' places are the heads'
pub place_less : (hs : List Head) (cs : List Cell) (gs : List Group) (i : ℕ) → groups_in hs cs ≡ gs → i < length gs → i < length hs
place_less hs cs gs i view less = let l = groups_long hs cs in let v = ap length view in omega (arith, l, v)

pub many_after : (hs : List Head) (cs any : List Cell) (gs : List Group) (i : ℕ) (new : Head) → groups_in hs cs ≡ gs → length (groups_in (set hs i new) any) ≡ length gs
many_after hs cs any gs i new view = groups_long (set hs i new) any ∙ length-set hs i new ∙ sym (groups_long hs cs) ∙ ap length view

-- one group more, and one less
pub full_with : (hs : List Head) (cs new : List Cell) (h : Head) → total hs ≡ length cs → h.count ≡ length new → total (hs ++ h ∷ []) ≡ length (cs ++ new)
full_with hs cs new h full long = let t = total_last hs h in omega (arith, t, length-append cs new)

pub seen_is : (h : Head) (g : Group) (cs : List Cell) → h.rows ≡ g.rows → standing_rank h.least ≡ g.least → cs ≡ g.cells → seen h cs ≡ g
seen_is h g cs rows least cells = ap (λ n. group n (standing_rank h.least) cs) rows ∙ ap (λ n. group g.rows n cs) least ∙ ap (λ l. group g.rows g.least l) cells

pub full_without : (hs : List Head) (cs : List Cell) (i s e : ℕ) (h : Head) → i < length hs → h ≡ get_or hs i h → total hs ≡ length cs → s ≡ total (take i hs) → e ≡ total (take (i + 1) hs)
    → total (remove hs i) ≡ length (take s cs ++ drop e cs)
full_without hs cs i s e h less is full start_is end_is =
    let r = total_removed hs i h less is in
    let m = total_more hs i h less is in
    let w = total_within hs i h less is in
    omega (arith, r, m, w, length-append (take s cs) (drop e cs), length-take-le s cs (omega (arith, w)), length-drop e cs)

pub groups_without : (hs : List Head) (cs : List Cell) (gs : List Group) (i s e : ℕ) (h : Head) → groups_in hs cs ≡ gs → i < length hs → h ≡ get_or hs i h → total hs ≡ length cs
    → s ≡ total (take i hs) → e ≡ total (take (i + 1) hs) → groups_in (remove hs i) (take s cs ++ drop e cs) ≡ remove gs i
groups_without hs cs gs i s e h view less is full start_is end_is =
    ap (λ n. groups_in (remove hs i) (take n cs ++ drop e cs)) start_is
    ∙ fewer_cells hs cs i e h less is (omega arith) (end_is ∙ total_more hs i h less is)
    ∙ ap (λ l. remove l i) view

-- what lies before a place and after another, cut at the list's end
pub cut_is : (cs new before after : List Cell) (s e n : ℕ) → new ≡ before ++ after → before ≡ part_of 0 s cs → after ≡ part_of e n cs → n ≡ length cs → new ≡ take s cs ++ drop e cs
cut_is cs new before after s e n is first second end =
    let all : s - 0 ≡ s = omega arith in
    is
    ∙ ap (λ l. l ++ after) (first ∙ ap (λ k. take k cs) all)
    ∙ ap (λ l. take s cs ++ l) (second ∙ ap (λ k. take (k - e) (drop e cs)) end ∙ take_all (length cs - e) (drop e cs) (omega (arith, length-drop e cs)))

-- cells of another kind, seen as these
pub seen_mid : {X : Type 0} (f : X → Cell) (s e : ℕ) (cs ys : List X) (new : List Cell) → s ≤ e → e ≤ length cs → map f ys ≡ new → map f (put_mid s (e - s) cs ys) ≡ with_part s e new (map f cs)
seen_mid f s e cs ys new order within is =
    map_mid f s (e - s) cs ys (omega arith)
    ∙ mid_is s e (map f cs) (map f ys) order (omega (arith, length-map cs f))
    ∙ ap (λ l. with_part s e l (map f cs)) is

pub long_mid : {X : Type 0} (s e : ℕ) (cs ys : List X) → s ≤ e → e ≤ length cs → length ys ≡ e - s → length (put_mid s (e - s) cs ys) ≡ length cs
long_mid s e cs ys order within long =
    ap length (mid_is s e cs ys order (omega arith))
    ∙ (let a = length-append (take s cs) (ys ++ drop e cs) in
    let b = length-append ys (drop e cs) in
    let t = length-take-le s cs (omega arith) in
    omega (arith, a, b, t, long, length-drop e cs))

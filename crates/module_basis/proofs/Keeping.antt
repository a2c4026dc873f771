-- From a basis to the reduced one, step by step: the vectors with low leads are put in descending order, and those
-- stay whose leads no lead of a later one divides.
use Rattle.std.proofs.Common.{◌≡◌, ℕ, suc, ◌+◌, ◌<◌, ◌≤◌, Bool, true, false, if◌then◌else◌, Some, None, inl, inr, ⊎_elim, sum, length, get_or, take, drop, List, [], ◌∷◌, ◌++◌, sym, refl, ap, subst, ◌∙◌, append_assoc, arith}
use Rattle.std.specs.List.{All, AllByRecursion, Contains, prefix_len}
use Rattle.std.specs.Ordering.{is_lt}
use Rattle.std.specs.declared.cmp.Ordering.{Ordering}
use Rattle.std.specs.declared.cmp.Ordering.TheVariants.{Less, Equal, Greater}
use Rattle.std.proofs.lemmas.Bool.{cases_lt}
use Rattle.std.proofs.lemmas.List.{get_or_default, length-append}
use Rattle.std.proofs.lemmas.List.Elements.{All-contains, All-contains_itself, All-weaker, All-from_recursion, Contains-append_right}
use Rattle.ibp_algebra.specs.FormalSum.{AllKeys, IsCanonical}
use Rattle.ibp_algebra.proofs.Combinations.{AllKeys-both}
use Rattle.mono_order.specs.Term.{Term}
use Rattle.mono_order.specs.TermOrder.{IsTermOrder}
use Rattle.module_vec.specs.ModuleVector.{ModuleVector, lead, IsMonicVector}
use Rattle.module_vec.specs.Division.{Remainder, DividesTo, first_divisor}
use Rattle.module_basis.specs.GroebnerBasis.{IsTailReduced}
use Rattle.module_basis.specs.Reducing.{Descends, IsSortedLow, IsKept}
use Rattle.module_basis.proofs.ReducedBases.{Contains-low, from_low_elements, low_from_lead, reduced_monic, IsTailReduced-divided}
use Rattle.module_basis.proofs.Reducing.{insert_descending, Every-insert, Contains-insert, Descends-insert, length-insert, kept_dropped, kept_added}

-- ---- the place of a term in a descending list

-- how many vectors in front have leads above the term
abbrev pub descending_place : (Term → Term → Ordering) → Term → List ModuleVector → ℕ
descending_place order t [] = 0
descending_place order t (h ∷ list) = if is_lt (order t (lead h)) then suc (descending_place order t list) else 0

place_if : (b : Bool) (n m : ℕ) → n ≡ m → (if b then suc n else 0) ≡ (if b then 1 + m else 0)
place_if true n m e = omega (arith, e)
place_if false n m e = refl

pub descending_place-is : (order : Term → Term → Ordering) (t : Term) (list : List ModuleVector) → descending_place order t list ≡ prefix_len (λ v. is_lt (order t (lead v))) list
descending_place-is order t [] = refl
descending_place-is order t (h ∷ list) = place_if (is_lt (order t (lead h))) _ _ (descending_place-is order t list)

pub record IsPlaced (order : Term → Term → Ordering) (t : Term) (list : List ModuleVector) (i : ℕ) : Type 0 where
  pub within : i ≤ length list
  pub rest : descending_place order t (drop i list) + i ≡ descending_place order t list

-- ---- a vector put at its place

insert_if : (r : Ordering) (g x : ModuleVector) (list after : List ModuleVector) (n : ℕ) → take n list ++ g ∷ drop n list ≡ after
    → take (if is_lt r then suc n else 0) (x ∷ list) ++ g ∷ drop (if is_lt r then suc n else 0) (x ∷ list) ≡ (if is_lt r then (x ∷ after) else (g ∷ x ∷ list))
insert_if Less g x list after n e = ap (λ (l : List ModuleVector). x ∷ l) e
insert_if Equal g x list after n e = refl
insert_if Greater g x list after n e = refl

pub insert_descending-place : (order : Term → Term → Ordering) (g : ModuleVector) (list : List ModuleVector)
    → take (descending_place order (lead g) list) list ++ g ∷ drop (descending_place order (lead g) list) list ≡ insert_descending order g list
unfolding insert_descending
insert_descending-place order g [] = refl
insert_descending-place order g (x ∷ list) = insert_if (order (lead g) (lead x)) g x list (insert_descending order g list) (descending_place order (lead g) list) (insert_descending-place order g list)

-- ---- the loops

-- the vectors with low leads in front are in the list
pub record IsSorting (order : Term → Term → Ordering) (high : ℕ → Bool) (elements : List ModuleVector) (i : ℕ) (sorted : List ModuleVector) : Type 0 where
  pub descends : Descends order sorted
  pub within : AllByRecursion (λ x. Contains elements x × (high (lead x).0 ≡ false)) sorted
  pub all : (k : ℕ) (d : ModuleVector) → k < i → high (lead (get_or elements k d)).0 ≡ false → Contains sorted (get_or elements k d)
  pub short : length sorted ≤ i

not_both : (b : Bool) → b ≡ true → b ≡ false → ⊥
not_both b e f = cc

module _ {variables : ℕ} {order : Term → Term → Ordering} {high : ℕ → Bool} {height : Term → ℕ} {bound : ℕ}
    (laws : IsTermOrder variables order high height bound) where
  pub IsSorting-high : (elements : List ModuleVector) (i : ℕ) (g : ModuleVector) (sorted : List ModuleVector) → i < length elements → g ≡ get_or elements i g → high (lead g).0 ≡ true
      → IsSorting order high elements i sorted → IsSorting order high elements (i + 1) sorted
  IsSorting-high elements i g sorted within is test h =
      record {
        descends = h.descends;
        within = h.within;
        all = λ k d below low.
            ⊎_elim (λ (old : k < i). h.all k d old low)
            (λ (last : i ≤ k).
            let same : k ≡ i = omega (arith, below) in
            let value : get_or elements k d ≡ g = ap (λ n. get_or elements n d) same ∙ (get_or_default elements i d g within ∙ sym is) in
            absurd (not_both (high (lead g).0) test (ap (λ (x : ModuleVector). high (lead x).0) (sym value) ∙ low)))
            (cases_lt k i);
        short = omega (arith, h.short);
      }

  pub IsSorting-low : (elements : List ModuleVector) (i : ℕ) (g : ModuleVector) (sorted : List ModuleVector) → i < length elements → g ≡ get_or elements i g → high (lead g).0 ≡ false
      → IsSorting order high elements i sorted → IsSorting order high elements (i + 1) (insert_descending order g sorted)
  IsSorting-low elements i g sorted within is low h =
      record {
        descends = Descends-insert laws g sorted h.descends;
        within = Every-insert (λ x. Contains elements x × (high (lead x).0 ≡ false)) order g sorted ((i, within, sym is), low) h.within;
        all = λ k d below test.
            ⊎_elim (λ (old : k < i). Contains-insert order g sorted (get_or elements k d) (inr (h.all k d old test)))
            (λ (last : i ≤ k).
            let same : k ≡ i = omega (arith, below) in
            let value : get_or elements k d ≡ g = ap (λ n. get_or elements n d) same ∙ (get_or_default elements i d g within ∙ sym is) in
            Contains-insert order g sorted (get_or elements k d) (inl (sym value)))
            (cases_lt k i);
        short = omega (arith, h.short, length-insert laws g sorted);
      }

  pub IsSorting-end : (elements : List ModuleVector) (i : ℕ) (sorted : List ModuleVector) → i ≤ length elements → length elements ≤ i → IsSorting order high elements i sorted
      → IsSortedLow order high elements sorted
  IsSorting-end elements i sorted up end h =
      record {
        descends = h.descends;
        within = λ x c.
            let k = All-contains (λ y. Contains elements y × (high (lead y).0 ≡ false)) sorted x (All-from_recursion (λ y. Contains elements y × (high (lead y).0 ≡ false)) sorted h.within) c in
            Contains-low high elements x k.0 k.1;
        all = λ x c.
            let k = from_low_elements high elements x c in
            subst (Contains sorted) k.0.2 (h.all k.0.0 x (omega (arith, k.0.1, end)) (ap (λ (y : ModuleVector). high (lead y).0) k.0.2 ∙ k.1));
        short = omega (arith, h.short, up);
      }

  -- what stays of the vectors that were taken off the end
  pub record IsKeeping (whole sorted kept : List ModuleVector) : Type 0 where
    pub done : List ModuleVector
    pub parts : whole ≡ sorted ++ done
    pub stays : IsKept order done kept

  Descends-later : (front back : List ModuleVector) → Descends order (front ++ back) → Descends order back
  Descends-later [] back h = h
  Descends-later (x ∷ front) back h = Descends-later front back h.1

  shifted : (whole sorted rest : List ModuleVector) (g : ModuleVector) (done : List ModuleVector) → whole ≡ sorted ++ done → sorted ≡ rest ++ g ∷ [] → whole ≡ rest ++ g ∷ done
  shifted whole sorted rest g done parts last = parts ∙ (ap (λ (l : List ModuleVector). l ++ done) last ∙ append_assoc rest (g ∷ []) done)

  pub IsKeeping-dropped : (whole sorted rest : List ModuleVector) (g : ModuleVector) (kept : List ModuleVector) (h : ModuleVector) → sorted ≡ rest ++ g ∷ [] → first_divisor kept (lead g) ≡ Some h
      → IsKeeping whole sorted kept → IsKeeping whole rest kept
  IsKeeping-dropped whole sorted rest g kept h last found k =
      record { done = g ∷ k.done; parts = shifted whole sorted rest g k.done k.parts last; stays = kept_dropped laws g k.done kept k.stays h found }

  pub IsKeeping-added : (whole sorted rest : List ModuleVector) (g : ModuleVector) (kept : List ModuleVector) → All (IsMonicVector order variables) whole → Descends order whole
      → sorted ≡ rest ++ g ∷ [] → first_divisor kept (lead g) ≡ None → IsKeeping whole sorted kept → IsKeeping whole rest (kept ++ g ∷ [])
  IsKeeping-added whole sorted rest g kept monic descends last none k =
      let parts = shifted whole sorted rest g k.done k.parts last in
      let down = Descends-later rest (g ∷ k.done) (subst (Descends order) parts descends) in
      record {
        done = g ∷ k.done;
        parts = parts;
        stays = kept_added laws g k.done kept k.stays
            (λ x c. All-contains (IsMonicVector order variables) whole x monic (subst (λ (l : List ModuleVector). Contains l x) (sym parts) (Contains-append_right rest (g ∷ k.done) x c)))
            down.0 none;
      }

  -- a vector that is taken off is one of the list, and so are those that stay
  pub IsKeeping-monic : (whole sorted rest : List ModuleVector) (g : ModuleVector) (kept : List ModuleVector) → All (IsMonicVector order variables) whole → sorted ≡ rest ++ g ∷ []
      → IsKeeping whole sorted kept → IsMonicVector order variables g
  IsKeeping-monic whole sorted rest g kept monic last k =
      let parts = shifted whole sorted rest g k.done k.parts last in
      All-contains (IsMonicVector order variables) whole g monic
      (subst (λ (l : List ModuleVector). Contains l g) (sym parts) (Contains-append_right rest (g ∷ k.done) g (0, omega arith, refl)))

  pub IsKeeping-short : (whole sorted kept : List ModuleVector) → IsKeeping whole sorted kept → length kept ≤ length whole
  IsKeeping-short whole sorted kept k = omega (arith, k.stays.short, ap length k.parts, length-append sorted k.done)

  -- ---- tails

  pub tail_low : (limit : ℕ) (v : ModuleVector) (first : Term × ℕ) (tail : ModuleVector) → v ≡ first ∷ tail → IsCanonical order v → high (lead v).0 ≡ false
      → AllKeys (λ t. sum t.1 ≤ limit) v → AllKeys (λ t. (high t.0 ≡ false) × (sum t.1 ≤ limit)) tail
  tail_low limit v first tail is canonical low bounded =
      (subst (AllKeys (λ t. (high t.0 ≡ false) × (sum t.1 ≤ limit))) is (AllKeys-both (λ t. high t.0 ≡ false) (λ t. sum t.1 ≤ limit) v (low_from_lead laws v canonical low) bounded)).1

  pub tail_reduced_to : (list : List ModuleVector) → All (IsMonicVector order variables) list → (limit : ℕ) (v : ModuleVector) (first : Term × ℕ) (tail rest : ModuleVector) → v ≡ first ∷ tail
      → IsMonicVector order variables v → DividesTo order limit list tail (Remainder rest) → IsTailReduced order variables list v (first ∷ rest) × IsCanonical order (first ∷ rest)
  tail_reduced_to list monic limit v first tail rest is is_monic divided =
      let m = subst (IsMonicVector order variables) is is_monic in
      let reduced = IsTailReduced-divided laws list monic limit first tail rest m.canonical m.terms divided in
      (subst (λ (w : ModuleVector). IsTailReduced order variables list w (first ∷ rest)) (sym is) reduced, (reduced_monic laws list (first ∷ tail) (first ∷ rest) m reduced).canonical)

  -- the vectors that stay are monic, with low leads
  pub kept_vectors : (elements sorted kept : List ModuleVector) → All (IsMonicVector order variables) elements → IsSortedLow order high elements sorted → IsKept order sorted kept
      → All (IsMonicVector order variables) kept × All (λ g. high (lead g).0 ≡ false) kept
  kept_vectors elements sorted kept monic s k = (
    All-weaker (Contains kept) (IsMonicVector order variables)
        (λ x c. All-contains (IsMonicVector order variables) elements x monic (from_low_elements high elements x (s.within x (k.within x c))).0) kept (All-contains_itself kept),
    All-weaker (Contains kept) (λ g. high (lead g).0 ≡ false) (λ x c. (from_low_elements high elements x (s.within x (k.within x c))).1) kept (All-contains_itself kept),
  )

  pub sorted_vectors : (elements sorted : List ModuleVector) → All (IsMonicVector order variables) elements → IsSortedLow order high elements sorted → All (IsMonicVector order variables) sorted
  sorted_vectors elements sorted monic s =
      All-weaker (Contains sorted) (IsMonicVector order variables) (λ x c. All-contains (IsMonicVector order variables) elements x monic (from_low_elements high elements x (s.within x c)).0) sorted (All-contains_itself sorted)

-- The terms above what a division cancels stay as they are, so one vector can hold the terms of the remainder in
-- front of what is left.
use Rattle.std.proofs.Common.{◌≡◌, ℕ, zero, suc, ◌+◌, ◌<◌, ◌≤◌, Bool, true, false, Some, None, sum, length, get_or, take, drop, List, [], ◌∷◌, ◌++◌, sym, refl, ap, subst, ◌∙◌, add-one, append_assoc, arith}
use Rattle.std.specs.declared.cmp.Ordering.{Ordering}
use Rattle.std.specs.declared.cmp.Ordering.TheVariants.{Greater}
use Rattle.std.proofs.Math.Seq.{drop-cons}
use Rattle.std.proofs.lemmas.List.{append-nil, take_more, take_all, take-append-drop, length-take, length-take-le}
use Rattle.std.proofs.Math.ListN.{drop_of_length-le}
use Rattle.ibp_field.specs.Arithmetic.{neg_mod}
use Rattle.ibp_algebra.specs.FormalSum.{FormalSum, AllKeys, AllBelow, IsCanonical, scale}
use Rattle.ibp_algebra.proofs.SumLaws.{SameCoefficients-refl, SameCoefficients-sym, SameCoefficients-trans, SameCoefficients-append, SameCoefficients-from_eq}
use Rattle.ibp_algebra.proofs.Canonical.{same_canonical, AllBelow-trans}
use Rattle.ibp_algebra.proofs.NormalForm.{SameCoefficients-normal_form}
use Rattle.ibp_algebra.proofs.Combinations.{AllKeys-weaker, AllKeys-both}
use Rattle.sparse_terms.proofs.Merging.{AllAbove, IsCanonical-append}
use Rattle.mono_order.specs.declared.limits.TheConstants.{MONO_DEGREE, RUN_DEGREE}
use Rattle.mono_order.specs.Term.{Term, same_term, quotient_exponents, divides, IsTerm}
use Rattle.mono_order.specs.TermOrder.{IsTermOrder}
use Rattle.mono_order.proofs.Terms.{terms_decide, divides-quotient, length-quotient}
use Rattle.module_vec.specs.ModuleVector.{ModuleVector, multiply_vector, lead, IsVector, IsMonicVector, multiple_value}
use Rattle.module_vec.specs.Division.{Division, Remainder, OverDegree, DividesTo, first_divisor, is_over_degree, subtract_multiple, multiple_with_lead}
use Rattle.module_vec.proofs.Multiples.{IsMonicVector-multiply, IsTerm-lead, lead-multiply}
use Rattle.module_vec.proofs.Degrees.{AllKeys-at, AllKeys-within}
use Rattle.module_vec.proofs.DivisionLaws.{IsCanonical-subtract, AllBelow-subtract, AllKeys-subtract}
use Rattle.module_vec.proofs.DivisionSteps.{prefixed, prefixed-more, DividesTo-zero, DividesTo-moved, DividesTo-over, DividesTo-subtracted}
use Rattle.module_vec.proofs.Measure.{lead_measure, lead_measure-falls}

AllKeys-parts : {K : Type 0} (P : K → Type 0) (f g : FormalSum K) → AllKeys P (f ++ g) → AllKeys P f × AllKeys P g
AllKeys-parts P [] g h = (tt, h)
AllKeys-parts P (t ∷ f) g h = let rest = AllKeys-parts P f g h.1 in ((h.0, rest.0), rest.1)

pub AllKeys-drop : {K : Type 0} (P : K → Type 0) (n : ℕ) (f : FormalSum K) → AllKeys P f → AllKeys P (drop n f)
AllKeys-drop P zero f h = h
AllKeys-drop P (suc n) [] h = tt
AllKeys-drop P (suc n) (t ∷ f) h = AllKeys-drop P n f h.1

record Split {K : Type 0} (order : K → K → Ordering) (f g : FormalSum K) : Type 0 where
  front : IsCanonical order f
  back : IsCanonical order g
  above : AllAbove order f g

IsCanonical-split : {K : Type 0} (order : K → K → Ordering) (f g : FormalSum K) → IsCanonical order (f ++ g) → Split order f g
IsCanonical-split order [] g h = record { front = tt; back = h; above = tt }
IsCanonical-split order (t ∷ f) g h =
    let below = AllKeys-parts (λ k. order t.0 k ≡ Greater) f g h.2 in
    let rest = IsCanonical-split order f g h.3 in
    record { front = (h.0, h.1, below.0, rest.front); back = rest.back; above = (below.1, rest.above) }

take_front : (n : ℕ) (f g : ModuleVector) → length f ≡ n → take n (f ++ g) ≡ f
take_front zero [] g e = refl
take_front (suc n) [] g e = absurd (omega arith)
take_front zero (x ∷ f) g e = absurd (omega arith)
take_front (suc n) (x ∷ f) g e = ap (λ (l : ModuleVector). x ∷ l) (take_front n f g (omega arith))

drop_front : (n : ℕ) (f g : ModuleVector) → length f ≡ n → drop n (f ++ g) ≡ g
drop_front zero [] g e = refl
drop_front (suc n) [] g e = absurd (omega arith)
drop_front zero (x ∷ f) g e = absurd (omega arith)
drop_front (suc n) (x ∷ f) g e = drop_front n f g (omega arith)

-- ---- a vector with its place

-- a term of the vector at its place
pub record Placed (whole : ModuleVector) (n : ℕ) (item : Term × ℕ) : Type 0 where
  pub within : n < length whole
  pub is : item ≡ get_or whole n item

pub placed : (first terms whole : ModuleVector) (n : ℕ) (item : Term × ℕ) → first ≡ whole → terms ≡ whole → n < length first → item ≡ get_or terms n item → Placed whole n item
placed first terms whole n item p q within is = record {
  within = omega (arith, within, ap length p);
  is = is ∙ ap (λ (l : ModuleVector). get_or l n item) q;
}

pub drop_at : (whole : ModuleVector) (n : ℕ) (item : Term × ℕ) → n < length whole → item ≡ get_or whole n item → drop n whole ≡ item ∷ drop (n + 1) whole
drop_at whole n item within is =
    drop-cons whole n item within ∙ (λ i. sym is i ∷ drop (sym (add-one n) i) whole)

parted : (whole : ModuleVector) (n : ℕ) (item : Term × ℕ) → n < length whole → item ≡ get_or whole n item → whole ≡ take n whole ++ (item ∷ drop (n + 1) whole)
parted whole n item within is = sym (take-append-drop n whole) ∙ ap (λ (l : ModuleVector). take n whole ++ l) (drop_at whole n item within is)

pub positive_at : (order : Term → Term → Ordering) (whole : ModuleVector) (n : ℕ) (item : Term × ℕ) → n < length whole → item ≡ get_or whole n item → IsCanonical order whole → 0 < item.1
positive_at order [] n item within is c = absurd (omega arith)
positive_at order (t ∷ whole) zero item within is c = subst (λ (u : Term × ℕ). 0 < u.1) (sym is) c.0
positive_at order (t ∷ whole) (suc n) item within is c = positive_at order whole n item (omega arith) is c.3

-- How the terms from a place on divide tells how the vector v divides.
pub record Settled (order : Term → Term → Ordering) (limit : ℕ) (list : List ModuleVector) (v whole : ModuleVector) (n : ℕ) : Type 0 where
  pub within : n ≤ length whole
  pub steps : (d : Division) → DividesTo order limit list (drop n whole) d → DividesTo order limit list v (prefixed (take n whole) d)

module _ (order : Term → Term → Ordering) (limit : ℕ) (list : List ModuleVector) where
  pub Settled-moved : (v whole : ModuleVector) (n : ℕ) (item : Term × ℕ) → n < length whole → item ≡ get_or whole n item → first_divisor list item.0 ≡ None
      → Settled order limit list v whole n → Settled order limit list v whole (n + 1)
  Settled-moved v whole n item within is none h =
      let front : take (n + 1) whole ≡ take n whole ++ item ∷ [] = take_more whole n item within ∙ ap (λ (t : Term × ℕ). take n whole ++ t ∷ []) (sym is) in
      record {
        within = omega (arith, within);
        steps = λ d k.
            subst (λ (f : ModuleVector). DividesTo order limit list v (prefixed f d)) (sym front)
            (subst (DividesTo order limit list v) (prefixed-more (take n whole) item d)
            (h.steps (prefixed (item ∷ []) d)
            (subst (λ (w : ModuleVector). DividesTo order limit list w (prefixed (item ∷ []) d)) (sym (drop_at whole n item within is))
            (DividesTo-moved order limit list item (drop (n + 1) whole) none d k))));
      }

  pub Settled-over : (v whole : ModuleVector) (n : ℕ) (item : Term × ℕ) (g : ModuleVector) → n < length whole → item ≡ get_or whole n item
      → first_divisor list item.0 ≡ Some g → is_over_degree limit (multiple_value (multiple_with_lead item.0 g)) ≡ true
      → Settled order limit list v whole n → DividesTo order limit list v OverDegree
  Settled-over v whole n item g within is found over h =
      h.steps OverDegree
      (subst (λ (w : ModuleVector). DividesTo order limit list w OverDegree) (sym (drop_at whole n item within is))
      (DividesTo-over order limit list item (drop (n + 1) whole) g found over))

  pub Settled-end : (v whole : ModuleVector) (n : ℕ) → length whole ≤ n → Settled order limit list v whole n → DividesTo order limit list v (Remainder whole)
  Settled-end v whole n done h =
      let nothing : drop n whole ≡ [] = drop_of_length-le whole done in
      let all : prefixed (take n whole) (Remainder []) ≡ Remainder whole = ap Remainder (append-nil (take n whole) ∙ take_all n whole done) in
      subst (DividesTo order limit list v) all
      (h.steps (Remainder []) (subst (λ (w : ModuleVector). DividesTo order limit list w (Remainder [])) (sym nothing) (DividesTo-zero order limit list)))

module _ {variables : ℕ} {order : Term → Term → Ordering} {high : ℕ → Bool} {height : Term → ℕ} {bound : ℕ}
    (laws : IsTermOrder variables order high height bound) where
  -- the terms in front are above those of the multiple
  subtract_behind : (front : ModuleVector) (t : Term × ℕ) (rest : ModuleVector) (m : List ℕ) (g : ModuleVector) → IsCanonical order (front ++ (t ∷ rest))
      → IsMonicVector order variables (multiply_vector m g) → lead (multiply_vector m g) ≡ t.0
      → subtract_multiple order (front ++ (t ∷ rest)) t.1 m g ≡ front ++ subtract_multiple order (t ∷ rest) t.1 m g
  subtract_behind front t rest m g canonical monic at =
      let s = IsCanonical-split order front (t ∷ rest) canonical in
      let left = subtract_multiple order (t ∷ rest) t.1 m g in
      let multiple = scale (neg_mod t.1) (multiply_vector m g) in
      let below = AllBelow-subtract laws t rest m g s.back monic at in
      let above : AllAbove order front left =
      AllKeys-weaker (λ k. AllBelow order k (t ∷ rest)) (λ k. AllBelow order k left) (λ k h. AllBelow-trans order laws.total k t.0 left h.0 below) front s.above
      in
      same_canonical order laws.total same_term terms_decide laws.unique (subtract_multiple order (front ++ (t ∷ rest)) t.1 m g) (front ++ left)
      (IsCanonical-subtract laws (front ++ (t ∷ rest)) t.1 m g) (IsCanonical-append order front left s.front (IsCanonical-subtract laws (t ∷ rest) t.1 m g) above)
      (SameCoefficients-trans (SameCoefficients-normal_form order laws.total laws.unique same_term terms_decide ((front ++ (t ∷ rest)) ++ multiple))
      (SameCoefficients-trans (SameCoefficients-from_eq (append_assoc front (t ∷ rest) multiple))
      (SameCoefficients-append same_term terms_decide (SameCoefficients-refl same_term front)
      (SameCoefficients-sym (SameCoefficients-normal_form order laws.total laws.unique same_term terms_decide ((t ∷ rest) ++ multiple))))))

  -- what is known where a multiple of g is taken off at a place
  pub record Cancels (whole : ModuleVector) (n : ℕ) (item : Term × ℕ) (g new : ModuleVector) : Type 0 where
    pub within : n < length whole
    pub is : item ≡ get_or whole n item
    pub vector : IsVector order variables whole
    pub monic : IsMonicVector order variables g
    pub divides : divides (lead g) item.0 ≡ true
    pub difference : new ≡ subtract_multiple order whole item.1 (multiple_with_lead item.0 g).0 g

  record Fitting (item : Term) (g : ModuleVector) : Type 0 where
    monic : IsMonicVector order variables (multiple_value (multiple_with_lead item g))
    lead_is : lead (multiple_value (multiple_with_lead item g)) ≡ item

  fitting : (item : Term) (g : ModuleVector) → IsTerm variables item → IsMonicVector order variables g → divides (lead g) item ≡ true → Fitting item g
  fitting item g valid monic h =
      let lead_valid = IsTerm-lead laws g monic.monic monic.terms in
      let long = length-quotient variables (lead g).1 item.1 lead_valid.exponents valid.exponents in
      record {
        monic = IsMonicVector-multiply laws (quotient_exponents item.1 (lead g).1) g long monic;
        lead_is = lead-multiply laws (quotient_exponents item.1 (lead g).1) g monic.monic ∙ divides-quotient variables (lead g) item lead_valid.exponents valid.exponents h;
      }

  -- the term, and the whole, at the place
  valid_at : (whole : ModuleVector) (n : ℕ) (item : Term × ℕ) (g new : ModuleVector) → Cancels whole n item g new → IsTerm variables item.0
  valid_at whole n item g new h = AllKeys-at (IsTerm variables) whole n item h.within h.is h.vector.terms

  cancelled_behind : (whole : ModuleVector) (n : ℕ) (item : Term × ℕ) (g new : ModuleVector) → Cancels whole n item g new
      → new ≡ take n whole ++ subtract_multiple order (item ∷ drop (n + 1) whole) item.1 (multiple_with_lead item.0 g).0 g
  cancelled_behind whole n item g new h =
      let f = fitting item.0 g (valid_at whole n item g new h) h.monic h.divides in
      let parts = parted whole n item h.within h.is in
      h.difference ∙ ap (λ (w : ModuleVector). subtract_multiple order w item.1 (multiple_with_lead item.0 g).0 g) parts
      ∙ subtract_behind (take n whole) item (drop (n + 1) whole) (multiple_with_lead item.0 g).0 g (subst (IsCanonical order) parts h.vector.canonical) f.monic f.lead_is

  front_long : (whole : ModuleVector) (n : ℕ) → n < length whole → length (take n whole) ≡ n
  front_long whole n within = length-take-le n whole (omega (arith, within))

  cancelled_front : (whole : ModuleVector) (n : ℕ) (item : Term × ℕ) (g new : ModuleVector) → Cancels whole n item g new → take n new ≡ take n whole
  cancelled_front whole n item g new h =
      ap (take n) (cancelled_behind whole n item g new h) ∙ take_front n (take n whole) _ (front_long whole n h.within)

  cancelled_rest : (whole : ModuleVector) (n : ℕ) (item : Term × ℕ) (g new : ModuleVector) → Cancels whole n item g new
      → drop n new ≡ subtract_multiple order (item ∷ drop (n + 1) whole) item.1 (multiple_with_lead item.0 g).0 g
  cancelled_rest whole n item g new h =
      ap (drop n) (cancelled_behind whole n item g new h) ∙ drop_front n (take n whole) _ (front_long whole n h.within)

  pub Settled-cancelled : (limit : ℕ) (list : List ModuleVector) (v whole : ModuleVector) (n : ℕ) (item : Term × ℕ) (g new : ModuleVector) → Cancels whole n item g new
      → first_divisor list item.0 ≡ Some g → is_over_degree limit (multiple_value (multiple_with_lead item.0 g)) ≡ false
      → Settled order limit list v whole n → Settled order limit list v new n
  Settled-cancelled limit list v whole n item g new c found small h =
      let front = cancelled_front whole n item g new c in
      record {
        within = omega (arith, c.within, ap length front, front_long whole n c.within, length-take n new);
        steps = λ d k.
            subst (λ (f : ModuleVector). DividesTo order limit list v (prefixed f d)) (sym front)
            (h.steps d
            (subst (λ (w : ModuleVector). DividesTo order limit list w d) (sym (drop_at whole n item c.within c.is))
            (DividesTo-subtracted order limit list item (drop (n + 1) whole) g found small d
            (subst (λ (w : ModuleVector). DividesTo order limit list w d) (cancelled_rest whole n item g new c) k))));
      }

  -- ---- the measure

  Bounded : Term → Type 0
  Bounded u = IsTerm variables u × (sum u.1 ≤ MONO_DEGREE)

  pub moved_falls : (whole : ModuleVector) (n : ℕ) (item : Term × ℕ) → n < length whole → item ≡ get_or whole n item → IsVector order variables whole
      → AllKeys (λ t. sum t.1 ≤ RUN_DEGREE) whole → lead_measure high height bound (drop (n + 1) whole) < lead_measure high height bound (drop n whole)
  unfolding Bounded
  moved_falls whole n item within is vector small =
      let rest = IsCanonical-split order (take n whole) (item ∷ drop (n + 1) whole) (subst (IsCanonical order) (parted whole n item within is) vector.canonical) in
      subst (λ (w : ModuleVector). lead_measure high height bound (drop (n + 1) whole) < lead_measure high height bound w) (sym (drop_at whole n item within is))
      (lead_measure-falls laws item (drop (n + 1) whole) (drop (n + 1) whole) (AllKeys-at (IsTerm variables) whole n item within is vector.terms)
      (AllKeys-drop Bounded (n + 1) whole (AllKeys-both (IsTerm variables) (λ t. sum t.1 ≤ MONO_DEGREE) whole vector.terms
      (AllKeys-weaker (λ t. sum t.1 ≤ RUN_DEGREE) (λ t. sum t.1 ≤ MONO_DEGREE) (λ t h. omega (arith, h)) whole small)))
      rest.back.2)

  pub cancelled_falls : (whole : ModuleVector) (n : ℕ) (item : Term × ℕ) (g new : ModuleVector) → Cancels whole n item g new → AllKeys (λ t. sum t.1 ≤ RUN_DEGREE) whole
      → is_over_degree RUN_DEGREE (multiple_value (multiple_with_lead item.0 g)) ≡ false
      → lead_measure high height bound (drop n new) < lead_measure high height bound (drop n whole)
  unfolding Bounded
  cancelled_falls whole n item g new c small within =
      let rest = drop (n + 1) whole in
      let m = (multiple_with_lead item.0 g).0 in
      let f = fitting item.0 g (valid_at whole n item g new c) c.monic c.divides in
      let s = IsCanonical-split order (take n whole) (item ∷ rest) (subst (IsCanonical order) (parted whole n item c.within c.is) c.vector.canonical) in
      let weaker = λ (w : ModuleVector) (h : AllKeys (λ t. sum t.1 ≤ RUN_DEGREE) w).
      AllKeys-weaker (λ t. sum t.1 ≤ RUN_DEGREE) (λ t. sum t.1 ≤ MONO_DEGREE) (λ t k. omega (arith, k)) w h
      in
      let whole_bounded = AllKeys-both (IsTerm variables) (λ t. sum t.1 ≤ MONO_DEGREE) whole c.vector.terms (weaker whole small) in
      let rest_bounded = subst (AllKeys Bounded) (drop_at whole n item c.within c.is) (AllKeys-drop Bounded n whole whole_bounded) in
      let multiple = multiple_value (multiple_with_lead item.0 g) in
      let multiple_bounded = AllKeys-both (IsTerm variables) (λ t. sum t.1 ≤ MONO_DEGREE) multiple f.monic.terms (weaker multiple (AllKeys-within RUN_DEGREE multiple within)) in
      let new_rest = subtract_multiple order (item ∷ rest) item.1 m g in
      subst (λ (w : ModuleVector). lead_measure high height bound w < lead_measure high height bound (drop n whole)) (sym (cancelled_rest whole n item g new c))
      (subst (λ (w : ModuleVector). lead_measure high height bound new_rest < lead_measure high height bound w) (sym (drop_at whole n item c.within c.is))
      (lead_measure-falls laws item rest new_rest (valid_at whole n item g new c) (AllKeys-subtract laws Bounded (item ∷ rest) item.1 m g rest_bounded multiple_bounded)
      (AllBelow-subtract laws item rest m g s.back f.monic f.lead_is)))

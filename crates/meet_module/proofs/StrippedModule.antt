-- Stripping keeps generation: where vectors generate the syzygies of sector 0 that the variables of a sector divide, the
-- stripped vectors generate the syzygies of the sector.
use Rattle.std.proofs.Common.{◌≡◌, ℕ, zero, suc, ◌+◌, ◌-◌, ◌*◌, ◌<◌, ◌≤◌, ◌^◌, Bool, true, false, if◌then◌else◌, ◌↔◌, length, get_or, set, List, [], ◌∷◌, ◌++◌, map, sym, refl, ap, subst, ◌∙◌, arith}
use Rattle.std.specs.List.{Contains}
use Rattle.ibp_base.proofs.Members.{from_map, in_map}
use Rattle.ibp_algebra.specs.FormalSum.{AllKeys, scale, map_keys}
use Rattle.ibp_algebra.specs.Exponents.{add_exponents}
use Rattle.ibp_algebra.specs.Polynomial.{Polynomial, SamePolynomial}
use Rattle.ibp_algebra.proofs.SumLaws.{SameCoefficients-refl, SameCoefficients-sym, SameCoefficients-trans, SameCoefficients-append, SameCoefficients-scale, SameCoefficients-map_keys, SameCoefficients-from_eq}
use Rattle.ibp_algebra.proofs.ZeroDivisors.{AllKeys-append, AllKeys-scale}
use Rattle.ibp_algebra.proofs.Combinations.{AllKeys-weaker}
use Rattle.mono_order.specs.declared.limits.TheConstants.{VARIABLES}
use Rattle.mono_order.specs.Term.{Term, same_term, multiply_term, IsTerm}
use Rattle.mono_order.proofs.Terms.{terms_decide}
use Rattle.module_vec.specs.ModuleVector.{ModuleVector, SameVector, multiply_vector, IsMember, IsSubmodule}
use Rattle.module_vec.proofs.Multiples.{AllKeys-map_keys, SameVector-multiply}
use Rattle.module_vec.proofs.Submodules.{IsMember-same, IsMember-zero, IsMember-append, IsMember-scale, IsMember-multiply, IsMember-generator, IsMember-least}
use Rattle.family.specs.Shapes.{HasVariables}
use Rattle.family.specs.Conditions.{in_sector}
use Rattle.sector_module.specs.Factors.{sector_factors}
use Rattle.sector_module.proofs.Syzygies.{value_at, IsInRange, IsSyzygy}
use Rattle.sector_module.proofs.Fields.{SamePolynomial-value_at}
use Rattle.sector_module.proofs.SectorBasis.{IsSubmodule-IsSyzygy}
use Rattle.sector_module.proofs.SectorReduced.{long_factors}
use Rattle.sector_module.proofs.SectorRun.{polynomials, few_factors}
use Rattle.meet_module.specs.Divided.{IsDividedTerm}
use Rattle.meet_module.specs.MeetRuns.{stripped, stripped_term}
use Rattle.meet_module.proofs.Stripping.{unstripped_term, member_below, unstripped_vector, stripped_vector, divided_vector, stripped_in_range, divided_in_range, same_value}
use Rattle.meet_module.proofs.DividedSyzygies.{IsDividedSyzygy, divided_times}

-- a power product may be multiplied before or after a variable is taken off
taken_after : (n i : ℕ) (m e : List ℕ) → length m ≡ n → length e ≡ n → i < n → 0 < get_or e i 0
    → set (add_exponents m e) i (get_or (add_exponents m e) i 0 - 1) ≡ add_exponents m (set e i (get_or e i 0 - 1))
taken_after zero i m e p q below some = absurd (omega arith)
taken_after (suc n) i [] e p q below some = absurd (omega arith)
taken_after (suc n) i (x ∷ m) [] p q below some = absurd (omega arith)
taken_after (suc n) zero (x ∷ m) (y ∷ e) p q below some = let first : x + y - 1 ≡ x + (y - 1) = omega (arith, some) in λ i. first i ∷ add_exponents m e
taken_after (suc n) (suc j) (x ∷ m) (y ∷ e) p q below some = λ i. (x + y) ∷ taken_after n j m e (omega arith) (omega arith) (omega arith) some i

module _ (p : Polynomial) (n sector : ℕ) (few : n ≤ VARIABLES) (shape : AllKeys (HasVariables n) p) (small : sector < 2 ^ n) where
  stripped_times_if : (b : Bool) (m : List ℕ) (t : Term) → in_sector sector (t.0 - 1) ≡ b → length m ≡ VARIABLES → IsDividedTerm n sector t
      → (let i = t.0 - 1 in let e = add_exponents m t.1 in
      (if b then set e i (get_or e i 0 - 1) else e) ≡ add_exponents m (if b then set t.1 i (get_or t.1 i 0 - 1) else t.1))
  stripped_times_if true m t e long d =
      taken_after VARIABLES (t.0 - 1) m t.1 long d.exponents (omega (arith, member_below n sector (t.0 - 1) small e, few)) (d.divided e)
  stripped_times_if false m t e long d = refl

  stripped_times : (m : List ℕ) → length m ≡ VARIABLES → (v : ModuleVector) → AllKeys (IsDividedTerm n sector) v → stripped sector (multiply_vector m v) ≡ multiply_vector m (stripped sector v)
  stripped_times m long [] h = refl
  stripped_times m long (t ∷ v) h =
      let e = stripped_times_if (in_sector sector (t.0.0 - 1)) m t.0 refl long h.0 in
      λ i. ((t.0.0, e i), t.1) ∷ stripped_times m long v h.1 i

  stripped_append : (v w : ModuleVector) → stripped sector (v ++ w) ≡ stripped sector v ++ stripped sector w
  stripped_append [] w = refl
  stripped_append (t ∷ v) w = λ i. (stripped_term sector t.0, t.1) ∷ stripped_append v w i

  stripped_scale : (c : ℕ) (v : ModuleVector) → stripped sector (scale c v) ≡ scale c (stripped sector v)
  stripped_scale c [] = refl
  stripped_scale c (t ∷ v) = λ i. (stripped_term sector t.0, c * t.1) ∷ stripped_scale c v i

  pub SameVector-stripped : (v w : ModuleVector) → SameVector v w → SameVector (stripped sector v) (stripped sector w)
  SameVector-stripped v w same = SameCoefficients-map_keys same_term terms_decide same_term terms_decide (stripped_term sector) {f = v} {g = w} same

  vanishes_at : (fs : List Polynomial) (v : ModuleVector) → IsSyzygy VARIABLES fs v → SamePolynomial (value_at fs v) []
  vanishes_at fs v s = SameCoefficients-trans (SamePolynomial-value_at fs v s.terms s.same) s.vanishes

  -- Without the variables it is a syzygy of the sector,
  pub stripped_syzygy : (v : ModuleVector) → AllKeys (IsDividedTerm n sector) v → IsSyzygy VARIABLES (sector_factors p n 0) v → IsSyzygy VARIABLES (sector_factors p n sector) (stripped sector v)
  stripped_syzygy v h s =
      let c = stripped sector v in
      let range = stripped_in_range n sector few small v h in
      let back = unstripped_vector n sector few small v h in
      record {
        terms = c;
        in_range = subst (λ k. AllKeys (IsInRange VARIABLES k) c) (sym (long_factors p n sector few shape)) range;
        same = SameCoefficients-refl same_term c;
        vanishes = SameCoefficients-trans (SameCoefficients-sym (same_value n sector few small p c range))
            (subst (λ (u : ModuleVector). SamePolynomial (value_at (sector_factors p n 0) u) []) (sym back) (vanishes_at (sector_factors p n 0) v s));
      }

  -- and with them a syzygy of the sector is one of sector 0.
  pub unstripped_syzygy : (v : ModuleVector) → AllKeys (IsInRange VARIABLES (suc n)) v → IsSyzygy VARIABLES (sector_factors p n sector) v → IsDividedSyzygy p n sector (map_keys (unstripped_term sector) v)
  unstripped_syzygy v range s =
      let u = map_keys (unstripped_term sector) v in
      let divided = divided_vector n sector few small v range in
      record {
        terms = u;
        divided = divided;
        same = SameCoefficients-refl same_term u;
        syzygy = record {
          terms = u;
          in_range = subst (λ k. AllKeys (IsInRange VARIABLES k) u) (sym (long_factors p n 0 few shape)) (divided_in_range n sector few small u divided);
          same = SameCoefficients-refl same_term u;
          vanishes = SameCoefficients-trans (same_value n sector few small p v range) (vanishes_at (sector_factors p n sector) v s);
        };
      }

  module _ (list : List ModuleVector) (divided : (g : ModuleVector) → Contains list g → AllKeys (IsDividedTerm n sector) g)
      (syzygies : (g : ModuleVector) → Contains list g → IsSyzygy VARIABLES (sector_factors p n 0) g)
      (generates : (v : ModuleVector) → IsDividedSyzygy p n sector v → IsMember VARIABLES list v) where
    abbrev pub raw : List ModuleVector
    raw = map (stripped sector) list

    stripped_terms : (g : ModuleVector) → Contains list g → AllKeys (IsTerm VARIABLES) (stripped sector g)
    stripped_terms g c =
        AllKeys-weaker (IsInRange VARIABLES (suc n)) (IsTerm VARIABLES) (λ t r. record { component = omega (arith, r.within, few); exponents = r.exponents }) (stripped sector g)
        (stripped_in_range n sector few small g (divided g c))

    pub stripped_valid : (r : ModuleVector) → Contains raw r → AllKeys (IsTerm VARIABLES) r
    stripped_valid r c = let image = from_map (stripped sector) list r c in subst (AllKeys (IsTerm VARIABLES)) image.1.1 (stripped_terms image.0 image.1.0)

    -- a vector whose divided form is, once stripped, generated by the stripped vectors
    record IsStrippedMember (v : ModuleVector) : Type 0 where
      terms : ModuleVector
      keys : AllKeys (IsDividedTerm n sector) terms
      same : SameVector v terms
      member : IsMember VARIABLES raw (stripped sector terms)

    IsSubmodule-IsStrippedMember : IsSubmodule VARIABLES IsStrippedMember
    IsSubmodule-IsStrippedMember =
        record {
          same = λ v w s h. record { terms = h.terms; keys = h.keys; same = SameCoefficients-trans (SameCoefficients-sym s) h.same; member = h.member };
          zero = record { terms = []; keys = tt; same = SameCoefficients-refl same_term []; member = IsMember-zero VARIABLES raw };
          sum = λ v w h k.
              record {
                terms = h.terms ++ k.terms;
                keys = AllKeys-append (IsDividedTerm n sector) h.terms k.terms h.keys k.keys;
                same = SameCoefficients-append same_term terms_decide h.same k.same;
                member = subst (IsMember VARIABLES raw) (sym (stripped_append h.terms k.terms)) (IsMember-append VARIABLES raw (stripped sector h.terms) (stripped sector k.terms) h.member k.member);
              };
          scaled = λ c v h.
              record {
                terms = scale c h.terms;
                keys = AllKeys-scale (IsDividedTerm n sector) c h.terms h.keys;
                same = SameCoefficients-scale same_term terms_decide c h.same;
                member = subst (IsMember VARIABLES raw) (sym (stripped_scale c h.terms)) (IsMember-scale VARIABLES raw c (stripped sector h.terms) h.member);
              };
          multiplied = λ m v long h.
              record {
                terms = multiply_vector m h.terms;
                keys = AllKeys-map_keys (IsDividedTerm n sector) (IsDividedTerm n sector) (multiply_term m) (divided_times p n sector few shape small m long) h.terms h.keys;
                same = SameVector-multiply m h.same;
                member = subst (IsMember VARIABLES raw) (sym (stripped_times m long h.terms h.keys)) (IsMember-multiply VARIABLES raw m (stripped sector h.terms) long h.member);
              };
        }

    each_stripped : (g : ModuleVector) → Contains list g → IsStrippedMember g
    each_stripped g c =
        record {
          terms = g;
          keys = divided g c;
          same = SameCoefficients-refl same_term g;
          member = IsMember-generator VARIABLES raw (stripped sector g) (in_map (stripped sector) list g c) (stripped_terms g c);
        }

    syzygy_from_member : (v : ModuleVector) → IsMember VARIABLES raw v → IsSyzygy VARIABLES (sector_factors p n sector) v
    syzygy_from_member v h =
        IsMember-least VARIABLES raw (IsSyzygy VARIABLES (sector_factors p n sector))
        (IsSubmodule-IsSyzygy VARIABLES (sector_factors p n sector) (polynomials p n sector few shape) (few_factors p n sector few shape))
        (λ r c.
        let image = from_map (stripped sector) list r c in
        subst (IsSyzygy VARIABLES (sector_factors p n sector)) image.1.1 (stripped_syzygy image.0 (divided image.0 image.1.0) (syzygies image.0 image.1.0)))
        v h

    member_from_syzygy : (v : ModuleVector) → IsSyzygy VARIABLES (sector_factors p n sector) v → IsMember VARIABLES raw v
    member_from_syzygy v s =
        let t = s.terms in
        let range = subst (λ k. AllKeys (IsInRange VARIABLES k) t) (long_factors p n sector few shape) s.in_range in
        let own : IsSyzygy VARIABLES (sector_factors p n sector) t = record { terms = t; in_range = s.in_range; same = SameCoefficients-refl same_term t; vanishes = s.vanishes } in
        let u = map_keys (unstripped_term sector) t in
        let m = IsMember-least VARIABLES list IsStrippedMember IsSubmodule-IsStrippedMember each_stripped u (generates u (unstripped_syzygy t range own)) in
        let back : SameVector (stripped sector m.terms) t =
        SameCoefficients-trans (SameCoefficients-sym (SameVector-stripped u m.terms m.same)) (SameCoefficients-from_eq (stripped_vector n sector few small t range))
        in
        IsMember-same VARIABLES raw (stripped sector m.terms) v (SameCoefficients-trans back (SameCoefficients-sym s.same)) m.member

    pub stripped_members : (v : ModuleVector) → IsMember VARIABLES raw v ↔ IsSyzygy VARIABLES (sector_factors p n sector) v
    stripped_members v = (syzygy_from_member v, member_from_syzygy v)

-- A family has one cut family on a sector, and this one keeps the limits of families.
use Rattle.std.proofs.Common.{◌≡◌, ◌≢◌, ℕ, ◌-◌, ◌^◌, ◌<◌, Bool, true, false, cond, [], ◌==◌, refl, sym, ap, subst, ◌∙◌, arith}
use Rattle.std.specs.Prelude.{count_ones, Option, None, Some, option_map}
use Rattle.std.specs.Int.Count.{ones-le}
use Rattle.std.proofs.lemmas.Bool.{false≢true}
use Rattle.std.proofs.lemmas.Bool.Decides.{nat_tests}
use Rattle.ibp_algebra.specs.Polynomial.{Polynomial}
use Rattle.family.specs.FamilyData.{FamilyData}
use Rattle.family.specs.Within.{DataWithin}
use Rattle.cut_family.specs.Cutting.{IsCutFamily, cut_caps, cut_polynomial, cut_sectors, cut_targets, fault_of, first_rising, is_zero_polynomial}
use Rattle.cut_family.specs.declared.fault.CutFault.{CutFault}
use Rattle.cut_family.specs.declared.fault.CutFault.TheVariants.{All, Zero, Target}
use Rattle.cut_family.proofs.CutLimits.{cut_limits}

pub one_cut : (cut : ℕ) (whole f g : FamilyData) → IsCutFamily cut whole f → IsCutFamily cut whole g → f ≡ g
one_cut cut whole f g one other = λ i. record {
  name = (one.name ∙ sym other.name) i;
  n = (one.n ∙ sym other.n) i;
  gamma = (one.gamma ∙ sym other.gamma) i;
  baikov = (one.baikov ∙ sym other.baikov) i;
  targets = (one.targets ∙ sym other.targets) i;
  zero = (one.zero ∙ sym other.zero) i;
  bounds = (one.bounds ∙ sym other.bounds) i;
  caps = (one.caps ∙ sym other.caps) i;
  symmetries = (one.symmetries ∙ sym other.symmetries) i;
  budget = (one.budget ∙ sym other.budget) i;
  probe = (one.probe ∙ sym other.probe) i;
}

passed : (test : Bool) (fault : CutFault) (others : Option CutFault) → cond test (Some fault) others ≡ None → (test ≡ false) × (others ≡ None)
passed true fault others none = absurd (cc)
passed false fault others none = (refl, none)

pub cut_within : (cut : ℕ) (whole family : FamilyData) → cut < 2 ^ whole.n → DataWithin whole → fault_of cut whole ≡ None → IsCutFamily cut whole family → DataWithin family
cut_within cut whole family small within no_fault is =
    let p : Polynomial = cut_polynomial cut whole.baikov in
    let others : Option CutFault = option_map Target (first_rising 1 cut whole.targets) in
    let first = passed (count_ones cut == whole.n) All (cond (is_zero_polynomial p) (Some Zero) others) no_fault in
    let second = passed (is_zero_polynomial p) Zero others first.1 in
    let few = ones-le whole.n cut small in
    let some : count_ones cut < whole.n = grind (arith, nat_tests, few, first.0) in
    let left : p ≢ [] = λ none. false≢true (sym second.0 ∙ ap is_zero_polynomial none) in
    let made : FamilyData = record {
      name = whole.name;
      n = whole.n - count_ones cut;
      gamma = whole.gamma;
      baikov = p;
      targets = cut_targets cut whole.targets;
      zero = cut_sectors whole.n cut whole.zero;
      bounds = whole.bounds;
      caps = cut_caps whole.n cut whole.caps;
      symmetries = [];
      budget = whole.budget;
      probe = None;
    } in
    let are : IsCutFamily cut whole made = record { name = refl; n = refl; gamma = refl; baikov = refl; targets = refl; zero = refl; bounds = refl; caps = refl; symmetries = refl; budget = refl; probe = refl } in
    subst DataWithin (one_cut cut whole made family are is)
    (cut_limits whole.n cut whole.baikov whole.targets whole.zero whole.bounds whole.caps whole.symmetries whole.budget whole.probe within small some left)

-- What a file is accepted with is within the limits.
use Rattle.std.proofs.Common.{◌≡◌, ◌≢◌, ℕ, zero, suc, ◌+◌, ◌-◌, ◌*◌, ◌/◌, ◌<◌, ◌≤◌, ◌^◌, ◌&&◌, List, [], ◌∷◌, ◌++◌, length, sum, replicate, Result, Ok, Err, Option, Some, None, IsSome, Bool, true, false, cond, ok_or, refl, ◌∙◌, subst, arith, length-append}
use Rattle.std.specs.Prelude.{nat_lt, nat_le, ◌==◌, slice_index_or}
use Rattle.std.specs.List.{All, AllByRecursion}
use Rattle.std.specs.Option.{ForSome}
use Rattle.std.proofs.lemmas.Bool.Decides.{nat_tests}
use Rattle.std.proofs.lemmas.List.{length-replicate}
use Rattle.toml.specs.Data.{Data}
use Rattle.ibp_algebra.specs.FormalSum.{AllKeys}
use Rattle.ibp_algebra.specs.Polynomial.{Polynomial}
use Rattle.mono_order.specs.declared.limits.TheConstants.{VARIABLES}
use Rattle.poly_text.specs.declared.fault.TextFault.{TextFault}
use Rattle.poly_text.specs.PolyText.{NumbersValue, value_in}
use Rattle.poly_text.specs.Answer.{text_answer}
use Rattle.sparse_poly.specs.declared.limits.TheConstants.{DEGREE_LIMIT, TERM_LIMIT}
use Rattle.family.specs.declared.limits.TheConstants.{CAP_LIMIT, EXTRA_LIMIT, PAIR_LIMIT, CANDIDATE_LIMIT}
use Rattle.family_file.specs.declared.limits.TheConstants.{LOOP_LIMIT}
use Rattle.family_file.specs.declared.version.Version.{Version}
use Rattle.family_file.specs.declared.version.Version.TheVariants.{One, Two}
use Rattle.family_file.specs.declared.fault.FileFault.{FileFault}
use Rattle.family_file.specs.declared.fault.FileFault.TheVariants as faults
use Rattle.family_file.specs.declared.need.Need.{Need}
use Rattle.family_file.specs.declared.need.Need.TheVariants as needs
use Rattle.family.specs.declared.parts.Bounds.{Bounds}
use Rattle.family.specs.declared.parts.Budget.{Budget}
use Rattle.family.specs.declared.parts.Probe.{Probe}
use Rattle.family.specs.declared.parts.SectorCaps.{SectorCaps}
use Rattle.family_file.specs.Need.{needs_probe}
use Rattle.family_file.specs.Reading.{collect}
use Rattle.family_file.specs.Table.{PolynomialData, polynomial_text, term_list, polynomial_of}
use Rattle.family_file.specs.Numbers.{natural}
use Rattle.family_file.specs.Version.{leg_limit, variable_limit}
use Rattle.family_file.specs.Caps.{caps_of}
use Rattle.family_file.specs.Symmetries.{symmetries_of}
use Rattle.family_file.specs.Selection.{selection_of}
use Rattle.family_file.specs.Document.{HeaderKeys, BodyKeys, BoundsKeys, BudgetKeys, ProbeKeys, DocumentKeys}
use Rattle.family.specs.Shapes.{HasVariables}
use Rattle.family.specs.Limits.{BoundsWithin, BudgetWithin, IsProbe, FamilyLimits}
use Rattle.family_file.specs.Arrays.{integer_in, list_in, powers_from, targets_of, zero_sectors_of}
use Rattle.family_file.specs.Polynomials.{or_fault, text_in, residue_in, numbers_of, exponent_in, term_from, term_in, terms_of, polynomial_in, polynomial_value, field_of}
use Rattle.family.specs.Name.{is_name}
use Rattle.family.specs.Within.{DataWithin}
use Rattle.family_file.specs.Accepted.{MeetsNeed}
use Rattle.family_file.specs.Family.{ShapeData, BodyData, name_in, shape_of, unless_zero, bounds_of, budget_of, probe_of, needed_probe, sector_check, baikov_of, body_of, family_of}
use Rattle.family.specs.FamilyData.{FamilyData}
use Rattle.family_file.proofs.Binds.{bind_ok, if_ok, unless_ok, where_ok, natural_within, collect_each, collect_length}
use Rattle.family_file.proofs.FamilySteps.{accepted_steps}
use Rattle.ibp_base.proofs.Tests.{same_ok, both_true}
use Rattle.ibp_base.proofs.Members.{All-each}
use Rattle.family_file.proofs.TargetLimits.{powers_are, targets_are, AreTargets}
use Rattle.family_file.proofs.SectorLimits.{zero_sectors_are, AreZeroSectors}
use Rattle.family_file.proofs.CapsLimits.{caps_are, AreCaps}
use Rattle.family_file.proofs.SymmetryLimits.{symmetries_are, AreSymmetries}
use Rattle.family_file.proofs.PolynomialLimits.{IsRead, Small, zeros_at, read_normal, normal_form_length}
use Rattle.family_file.proofs.TextLimits.{text_read}
use Rattle.family_file.proofs.Filling.{padded_sum}

-- ---- polynomials

or_fault_read : (n : ℕ) (fault : FileFault) (r : Result Polynomial TextFault) (p : Polynomial) → ((q : Polynomial) → r ≡ Ok q → IsRead n q) → or_fault fault r ≡ Ok p → IsRead n p
or_fault_read n fault (Ok q) p each e = subst (IsRead n) (same_ok q p e) (each q refl)
or_fault_read n fault (Err f) p each e = absurd (cc)

text_in_read : (n : ℕ) → n ≤ VARIABLES → (fault : FileFault) (numbers : NumbersValue) (text : List ℕ) (p : Polynomial) → text_in fault n numbers text ≡ Ok p → IsRead n p
unfolding text_in
text_in_read n most fault numbers text p e = or_fault_read n fault (text_answer n (value_in numbers) text) p (text_read n most (value_in numbers) text) e

pub record IsReadTerm (n : ℕ) (term : List ℕ × ℕ) : Type 0 where
  pub variables : HasVariables n term.0
  pub small : sum term.0 ≤ DEGREE_LIMIT

pub padded_length : (n : ℕ) (exponents : List ℕ) → length exponents ≡ n → n ≤ VARIABLES → length (exponents ++ replicate (VARIABLES - n) 0) ≡ VARIABLES
padded_length n exponents h most = omega (arith, length-append exponents (replicate (VARIABLES - n) 0), length-replicate {A = ℕ} (VARIABLES - n) 0, h, most)

padded_at : (k : ℕ) (exponents : List ℕ) (i : ℕ) → length exponents ≤ i → slice_index_or (exponents ++ replicate k 0) i 0 ≡ 0
padded_at k [] i h = zeros_at k i
padded_at k (x ∷ exponents) zero h = absurd (omega (arith, h))
padded_at k (x ∷ exponents) (suc i) h = padded_at k exponents i (omega (arith, h))

term_is : (fault : FileFault) (n : ℕ) → n ≤ VARIABLES → (ds : List Data) (term : List ℕ × ℕ) → term_from fault n ds ≡ Ok term → IsReadTerm n term
unfolding term_from
term_is fault n most [] term e = absurd (cc)
term_is fault n most (first ∷ others) term e =
    let coefficient = bind_ok (integer_in fault first) _ term e in
    let exponents = bind_ok (collect (exponent_in fault) others) _ term coefficient.1.1 in
    let made = if_ok (length exponents.0 == n && nat_le (sum exponents.0) DEGREE_LIMIT) _ term fault exponents.1.1 in
    let sides = both_true (length exponents.0 == n) (nat_le (sum exponents.0) DEGREE_LIMIT) made.0 in
    let many : length exponents.0 ≡ n = grind (arith, nat_tests, sides.0) in
    let small : sum exponents.0 ≤ DEGREE_LIMIT = grind (arith, nat_tests, sides.1) in
    subst (IsReadTerm n) made.1 (record {
      variables = record {
        each_variable = padded_length n exponents.0 many most;
        none_beyond = λ i le. padded_at (VARIABLES - n) exponents.0 i (omega (arith, many, le));
      };
      small = omega (arith, padded_sum (VARIABLES - n) exponents.0, small);
    })

term_in_is : (fault : FileFault) (n : ℕ) → n ≤ VARIABLES → (d : Data) (term : List ℕ × ℕ) → term_in fault n d ≡ Ok term → IsReadTerm n term
unfolding term_in
term_in_is fault n most d term e =
    let listed = bind_ok (list_in fault d) _ term e in
    term_is fault n most listed.0 term listed.1.1

each_variables : (n : ℕ) (f : Polynomial) → AllByRecursion (IsReadTerm n) f → AllKeys (HasVariables n) f
each_variables n [] h = tt
each_variables n (term ∷ f) h = (h.0.variables, each_variables n f h.1)

each_small : (n : ℕ) (f : Polynomial) → AllByRecursion (IsReadTerm n) f → AllKeys Small f
each_small n [] h = tt
each_small n (term ∷ f) h = (h.0.small, each_small n f h.1)

terms_read : (n : ℕ) → n ≤ VARIABLES → (fault : FileFault) (ds : List Data) (p : Polynomial) → terms_of fault n ds ≡ Ok p → IsRead n p
unfolding terms_of
terms_read n most fault ds p e =
    let within = unless_ok (nat_lt TERM_LIMIT (length ds)) _ fault p e in
    let read = bind_ok (collect (term_in fault n) ds) _ p within.1 in
    let each = collect_each (IsReadTerm n) (term_in fault n) (term_in_is fault n most) ds read.0 read.1.0 in
    let many : length read.0 ≡ length ds = collect_length (term_in fault n) ds read.0 read.1.0 in
    let few : length ds ≤ TERM_LIMIT = grind (arith, nat_tests, within.0) in
    subst (IsRead n) (same_ok _ p read.1.1) (read_normal n read.0 (each_variables n read.0 each) (each_small n read.0 each) (omega (arith, normal_form_length read.0, many, few)))

polynomial_read : (n : ℕ) → n ≤ VARIABLES → (fault : FileFault) (numbers : NumbersValue) (key : PolynomialData) (p : Polynomial) → polynomial_in fault n numbers key ≡ Ok p → IsRead n p
polynomial_read n most fault numbers (polynomial_text text) p e = text_in_read n most fault numbers text p e
polynomial_read n most fault numbers (term_list ds) p e = terms_read n most fault ds p e

polynomial_value_read : (n : ℕ) → n ≤ VARIABLES → (fault : FileFault) (numbers : NumbersValue) (d : Data) (p : Polynomial) → polynomial_value fault n numbers d ≡ Ok p → IsRead n p
unfolding polynomial_value
polynomial_value_read n most fault numbers d p e =
    let key = bind_ok (polynomial_of fault d) _ p e in
    polynomial_read n most fault numbers key.0 p key.1.1

pub record IsReadField (n : ℕ) (a : List Polynomial) : Type 0 where
  pub count : length a ≡ n
  pub each : All (IsRead n) a

field_read : (n : ℕ) → n ≤ VARIABLES → (fault : FileFault) (numbers : NumbersValue) (ds : List Data) (a : List Polynomial) → field_of fault n numbers ds ≡ Ok a → IsReadField n a
unfolding field_of
field_read n most fault numbers ds a e =
    let read = where_ok (length ds == n) (collect (polynomial_value fault n numbers) ds) fault a e in
    let many : length ds ≡ n = grind (arith, nat_tests, read.0) in
    record {
      count = collect_length (polynomial_value fault n numbers) ds a read.1 ∙ many;
      each = All-each (IsRead n) a (collect_each (IsRead n) (polynomial_value fault n numbers) (polynomial_value_read n most fault numbers) ds a read.1);
    }

-- ---- the parts

at_most : (version : Version) → variable_limit version ≤ VARIABLES
at_most One = omega arith
at_most Two = omega arith

pub record IsShape (shape : ShapeData) : Type 0 where
  pub some : 1 ≤ shape.variables
  pub few : shape.variables ≤ VARIABLES

shape_is : (version : Version) (header : HeaderKeys) (shape : ShapeData) → shape_of version header ≡ Ok shape → IsShape shape
unfolding shape_of
shape_is version header shape e =
    let loops = bind_ok (natural faults.Shape 1 LOOP_LIMIT header.loops) _ shape e in
    let legs = bind_ok (natural faults.Shape 0 (leg_limit version) header.legs) _ shape loops.1.1 in
    let variables = bind_ok (natural faults.Shape 1 (variable_limit version) header.variables) _ shape legs.1.1 in
    let sides = natural_within faults.Shape 1 (variable_limit version) header.variables variables.0 variables.1.0 in
    let made = if_ok (variables.0 == loops.0 * (loops.0 + 1) / 2 + loops.0 * legs.0) _ shape faults.Shape variables.1.1 in
    subst IsShape made.1 (record { some = sides.0; few = omega (arith, sides.1, at_most version) })

bounds_are : (keys : BoundsKeys) (bounds : Bounds) → bounds_of keys ≡ Ok bounds → BoundsWithin bounds
unfolding bounds_of
bounds_are keys bounds e =
    let dots = bind_ok (natural faults.Limits 0 CAP_LIMIT keys.dots_cap) _ bounds e in
    let rank = bind_ok (natural faults.Limits 0 CAP_LIMIT keys.rank_cap) _ bounds dots.1.1 in
    let more_dots = bind_ok (natural faults.Limits 0 EXTRA_LIMIT keys.extra_dots) _ bounds rank.1.1 in
    let more_rank = bind_ok (natural faults.Limits 0 EXTRA_LIMIT keys.extra_rank) _ bounds more_dots.1.1 in
    subst BoundsWithin (same_ok _ bounds more_rank.1.1) (record {
      dots_cap = (natural_within faults.Limits 0 CAP_LIMIT keys.dots_cap dots.0 dots.1.0).1;
      rank_cap = (natural_within faults.Limits 0 CAP_LIMIT keys.rank_cap rank.0 rank.1.0).1;
      extra_dots = (natural_within faults.Limits 0 EXTRA_LIMIT keys.extra_dots more_dots.0 more_dots.1.0).1;
      extra_rank = (natural_within faults.Limits 0 EXTRA_LIMIT keys.extra_rank more_rank.0 more_rank.1.0).1;
    })

budget_is : (keys : BudgetKeys) (budget : Budget) → budget_of keys ≡ Ok budget → BudgetWithin budget
unfolding budget_of
budget_is keys budget e =
    let pairs = bind_ok (natural faults.Budget 0 PAIR_LIMIT keys.pairs) _ budget e in
    let candidates = bind_ok (natural faults.Budget 0 CANDIDATE_LIMIT keys.candidates) _ budget pairs.1.1 in
    let selection = bind_ok (selection_of keys.selection) _ budget candidates.1.1 in
    subst BudgetWithin (same_ok _ budget selection.1.1) (record {
      pairs = (natural_within faults.Budget 0 PAIR_LIMIT keys.pairs pairs.0 pairs.1.0).1;
      candidates = (natural_within faults.Budget 0 CANDIDATE_LIMIT keys.candidates candidates.0 candidates.1.0).1;
    })

probe_is : (n : ℕ) → n ≤ VARIABLES → (numbers : NumbersValue) (keys : ProbeKeys) (probe : Probe) → probe_of n numbers keys ≡ Ok probe → IsProbe n probe
unfolding probe_of
probe_is n most numbers keys probe e =
    let a = bind_ok (field_of faults.Probe n numbers keys.field) _ probe e in
    let b = bind_ok (polynomial_in faults.Probe n numbers keys.factor) _ probe a.1.1 in
    let seed = bind_ok (powers_from faults.Probe n keys.seed) _ probe b.1.1 in
    let field = field_read n most faults.Probe numbers keys.field a.0 a.1.0 in
    let factor = polynomial_read n most faults.Probe numbers keys.factor b.0 b.1.0 in
    subst (IsProbe n) (same_ok _ probe seed.1.1) (record {
      field = record { count = field.count; polynomials = λ k d below. (field.each k d below).polynomial; factor = factor.polynomial };
      few_terms = λ k d below. (field.each k d below).few;
      few_factor_terms = factor.few;
      seed = powers_are faults.Probe n keys.seed seed.0 seed.1.0;
    })

needed_probe_is : (need : Need) (n : ℕ) → n ≤ VARIABLES → (numbers : NumbersValue) (keys : Option ProbeKeys) (probe : Option Probe) → needed_probe need n numbers keys ≡ Ok probe → ForSome probe (IsProbe n)
unfolding needed_probe
needed_probe_is need n most numbers None probe e =
    let made = unless_ok (needs_probe need) (Ok None) faults.Probe probe e in
    let none : None ≡ probe = same_ok None probe made.1 in
    λ x found. absurd (cc)
needed_probe_is need n most numbers (Some keys) probe e =
    let read = bind_ok (probe_of n numbers keys) _ probe e in
    let some : Some read.0 ≡ probe = same_ok _ probe read.1.1 in
    λ x found. subst (IsProbe n) (let same : read.0 ≡ x = cc in same) (probe_is n most numbers keys read.0 read.1.0)

not_zero_is : (p q : Polynomial) → unless_zero p ≡ Ok q → q ≢ []
not_zero_is [] q e = absurd (cc)
not_zero_is (term ∷ p) q e = λ none. let same : term ∷ p ≡ q = same_ok _ q e in absurd (cc)

pub record IsBaikov (n : ℕ) (p : Polynomial) : Type 0 where
  pub read : IsRead n p
  pub not_zero : p ≢ []

unless_zero_is : (p q : Polynomial) → unless_zero p ≡ Ok q → p ≡ q
unless_zero_is [] q e = absurd (cc)
unless_zero_is (term ∷ p) q e = same_ok _ q e

baikov_is : (n : ℕ) → n ≤ VARIABLES → (numbers : NumbersValue) (keys : BodyKeys) (p : Polynomial) → baikov_of n numbers keys ≡ Ok p → IsBaikov n p
unfolding baikov_of
baikov_is n most numbers keys p e =
    let read = bind_ok (polynomial_in faults.Baikov n numbers keys.baikov) _ p e in
    record {
      read = subst (IsRead n) (unless_zero_is read.0 p read.1.1) (polynomial_read n most faults.Baikov numbers keys.baikov read.0 read.1.0);
      not_zero = not_zero_is read.0 p read.1.1;
    }

pub record IsBody (n : ℕ) (body : BodyData) : Type 0 where
  pub baikov : IsBaikov n body.baikov
  pub zero : AreZeroSectors n body.zero
  pub targets : AreTargets n body.targets

body_is : (n : ℕ) → n ≤ VARIABLES → (keys : BodyKeys) (body : BodyData) → body_of n keys ≡ Ok body → IsBody n body
unfolding body_of
body_is n most keys body e =
    let dimension = bind_ok (residue_in faults.Number keys.dimension) _ body e in
    let numbers = bind_ok (numbers_of keys.numbers) _ body dimension.1.1 in
    let baikov = bind_ok (baikov_of n numbers.0 keys) _ body numbers.1.1 in
    let zero = bind_ok (zero_sectors_of n keys.zero) _ body baikov.1.1 in
    let targets = bind_ok (targets_of n keys.targets) _ body zero.1.1 in
    subst (IsBody n) (same_ok _ body targets.1.1) (record {
      baikov = baikov_is n most numbers.0 keys baikov.0 baikov.1.0;
      zero = zero_sectors_are n keys.zero zero.0 zero.1.0;
      targets = targets_are n keys.targets targets.0 targets.1.0;
    })

-- the limits, put together
pub limits_of : (n : ℕ) (body : BodyData) (bounds : Bounds) (caps : List SectorCaps) (symmetries : List (List ℕ)) (budget : Budget) (probe : Option Probe) → 1 ≤ n → n ≤ VARIABLES → IsBody n body → BoundsWithin bounds → AreCaps n caps → AreSymmetries n symmetries → BudgetWithin budget → ForSome probe (IsProbe n)
    → FamilyLimits n body.baikov body.targets body.zero bounds caps symmetries budget probe
limits_of n body bounds caps symmetries budget probe some few h bounds_within own group budget_within probe_fits = record {
  some_variables = some;
  few_variables = few;
  polynomial = h.baikov.read.polynomial;
  few_terms = h.baikov.read.few;
  not_zero = h.baikov.not_zero;
  few_targets = h.targets.few;
  target_powers = h.targets.each;
  distinct = h.targets.distinct;
  few_zero = h.zero.few;
  zero_below = h.zero.each;
  bounds_within = bounds_within;
  few_caps = own.few;
  caps_within = own.each;
  distinct_caps = own.distinct;
  few_symmetries = group.few;
  permutations = group.each;
  closed = group.closed;
  budget_within = budget_within;
  probe_fits = probe_fits;
}

pub keys_within : (n : ℕ) → 1 ≤ n → n ≤ VARIABLES → (need : Need) (keys : DocumentKeys) (body : BodyData) (bounds : Bounds) (caps : List SectorCaps) (symmetries : List (List ℕ)) (budget : Budget) (probe : Option Probe) → body_of n keys.body ≡ Ok body → bounds_of keys.bounds ≡ Ok bounds → caps_of n keys.sectors ≡ Ok caps → budget_of keys.budget ≡ Ok budget
    → needed_probe need n body.numbers keys.probe ≡ Ok probe → symmetries_of n keys.symmetries ≡ Ok symmetries → FamilyLimits n body.baikov body.targets body.zero bounds caps symmetries budget probe
keys_within n some few need keys body bounds caps symmetries budget probe a b own c d group =
    limits_of n body bounds caps symmetries budget probe some few (body_is n few keys.body body a) (bounds_are keys.bounds bounds b) (caps_are n keys.sectors caps own) (symmetries_are n keys.symmetries symmetries group) (budget_is keys.budget budget c) (needed_probe_is need n few body.numbers keys.probe probe d)

pub accepted_within : (need : Need) (bytes : List ℕ) (family : FamilyData) → family_of need bytes ≡ Ok family → DataWithin family
accepted_within need bytes family e =
    let read = accepted_steps need bytes family e in
    let s = read.steps in
    let fits = shape_is s.version read.keys.header s.shape s.shape_read in
    subst DataWithin s.is (keys_within s.shape.variables fits.some fits.few need read.keys s.body s.bounds s.caps s.symmetries s.budget s.probe s.body_read s.bounds_read s.caps_read s.budget_read s.probe_read s.symmetries_read)

-- ---- the name

name_given : (bytes : List ℕ) (test : Bool) → is_name bytes ≡ test → (name : List ℕ) → ok_or (cond test (Some bytes) None) faults.Header ≡ Ok name → is_name name ≡ true
name_given bytes true is name e = subst (λ (n : List ℕ). is_name n ≡ true) (same_ok bytes name e) is
name_given bytes false is name e = absurd (cc)

name_is : (bytes name : List ℕ) → name_in bytes ≡ Ok name → is_name name ≡ true
name_is bytes name e = name_given bytes (is_name bytes) refl name e

pub accepted_named : (need : Need) (bytes : List ℕ) (family : FamilyData) → family_of need bytes ≡ Ok family → is_name family.name ≡ true
accepted_named need bytes family e =
    let read = accepted_steps need bytes family e in
    subst (λ (f : FamilyData). is_name f.name ≡ true) read.steps.is (name_is read.keys.header.name read.steps.name read.steps.name_read)

-- ---- what is needed is there

probe_given : (n : ℕ) (numbers : NumbersValue) (keys : Option ProbeKeys) (probe : Option Probe) → needed_probe needs.Probe n numbers keys ≡ Ok probe → IsSome probe
unfolding needed_probe
probe_given n numbers None probe e = absurd (cc)
probe_given n numbers (Some keys) probe e =
    let read = bind_ok (probe_of n numbers keys) _ probe e in
    subst IsSome (same_ok _ probe read.1.1) refl

sector_given : (number n : ℕ) (checked : Unit {0}) → sector_check (needs.Sector number) n ≡ Ok checked → number < 2 ^ n
sector_given number n checked e =
    let found = where_ok (nat_lt number (2 ^ n)) (Ok tt) faults.NoSector checked e in
    grind (arith, nat_tests, found.0)

pub accepted_needs : (need : Need) (bytes : List ℕ) (family : FamilyData) → family_of need bytes ≡ Ok family → MeetsNeed need family
accepted_needs need bytes family e =
    let read = accepted_steps need bytes family e in
    let s = read.steps in
    let n = s.shape.variables in
    subst (MeetsNeed need) s.is (record {
      probe = λ same. probe_given n s.body.numbers read.keys.probe s.probe (subst (λ other. needed_probe other n s.body.numbers read.keys.probe ≡ Ok s.probe) same s.probe_read);
      sector = λ number same. sector_given number n s.sector (subst (λ other. sector_check other n ≡ Ok s.sector) same s.sector_read);
    })

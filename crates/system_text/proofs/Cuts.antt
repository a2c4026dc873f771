-- Bodies of lines, cut into their parts from the left.
use Rattle.std.proofs.Common.{◌≡◌, ◌≢◌, ℕ, suc, ◌<◌, ◌≤◌, ◌^◌, ℤ, List, [], ◌∷◌, ◌++◌, length, true, false, refl, sym, ap, ap₂, ◌∙◌, append_assoc, subst, arith, length-append}
use Rattle.std.specs.Prelude.{codes, decimal, ◌≤ℤ◌, neg_ℤ, Option, Some, None}
use Rattle.line_reader.specs.Fronts.{IsSomeWith}
use Rattle.std.specs.List.{AllByRecursion, All, flat_map, list_all}
use Rattle.std.specs.Char.{is_ascii_digit}
use Rattle.std.specs.Fmt.{signed_decimal}
use Rattle.std.proofs.lemmas.Fmt.{digits_decimal, decimal_nonempty}
use Rattle.std.proofs.lemmas.Int.{ints}
use Rattle.std.proofs.lemmas.List.Elements.{recursion_from_All, All-from_recursion}
use Rattle.std.proofs.lemmas.Nat.{pow_below}
use Rattle.sector_lattice.specs.declared.sector.Sector.{Sector}
use Rattle.sector_lattice.specs.declared.integral.TheConstants.{POWER}
use Rattle.ibp_algebra.specs.Laurent.{power_at}
use Rattle.ibp_algebra.specs.Polynomial.{Polynomial}
use Rattle.mono_order.specs.declared.limits.TheConstants.{RUN_DEGREE}
use Rattle.family.specs.Shapes.{IsPolynomial, ArePowers}
use Rattle.family.specs.declared.limits.TheConstants.{LEAST_POWER, GREATEST_POWER}
use Rattle.family.specs.declared.parts.StrippedField.{StrippedField}
use Rattle.line_reader.specs.Entries.{separated}
use Rattle.line_reader.proofs.Digits.{own, first_passes}
use Rattle.system_text.specs.Texts.{joined, poly_text, integral_text, row_text, row_term_text}
use Rattle.system_text.specs.Systems.{weight_text, weights_text}
use Rattle.system_text.specs.Integrals.{IsPower}
use Rattle.system_text.specs.Polynomials.{EndsPoly}
use Rattle.system_text.specs.SystemValues.{IsIntegral, IsRow, IsStripped, AreWeights}
use Rattle.system_text.specs.SystemLines.{heading_body, field_body, Origin, origin_body}

pub heading_cut : (h : Sector × ℕ) (bytes : List ℕ) → bytes ≡ heading_body h ++ 10 ∷ [] → bytes ≡ decimal h.0.0 ++ (codes " fields " ++ (decimal h.1 ++ 10 ∷ []))
heading_cut h bytes e =
    e ∙ append_assoc (decimal h.0.0 ++ codes " fields ") (decimal h.1) (10 ∷ []) ∙ append_assoc (decimal h.0.0) (codes " fields ") (decimal h.1 ++ 10 ∷ [])

abbrev pub polys_cut : StrippedField → List ℕ
polys_cut f = joined poly_text (codes ", ") f.c ++ (codes " ; " ++ (poly_text f.b ++ 10 ∷ []))

pub field_cut : (k : ℕ) (f : StrippedField) (bytes : List ℕ) → bytes ≡ field_body k f ++ 10 ∷ [] → bytes ≡ decimal k ++ (codes ": " ++ polys_cut f)
field_cut k f bytes e =
    let polys = joined poly_text (codes ", ") f.c in
    e ∙ append_assoc (((decimal k ++ codes ": ") ++ polys) ++ codes " ; ") (poly_text f.b) (10 ∷ [])
    ∙ append_assoc ((decimal k ++ codes ": ") ++ polys) (codes " ; ") (poly_text f.b ++ 10 ∷ [])
    ∙ append_assoc (decimal k ++ codes ": ") polys (codes " ; " ++ (poly_text f.b ++ 10 ∷ []))
    ∙ append_assoc (decimal k) (codes ": ") (polys ++ (codes " ; " ++ (poly_text f.b ++ 10 ∷ [])))

abbrev pub number_cut : Origin → List ℕ
number_cut o = codes " field " ++ (decimal o.2 ++ 10 ∷ [])

pub origin_cut : (k : ℕ) (o : Origin) (bytes : List ℕ) → bytes ≡ origin_body k o ++ 10 ∷ []
    → bytes ≡ decimal k ++ (codes ": sector " ++ (decimal o.0.0 ++ (codes " seed " ++ (integral_text o.1 ++ number_cut o))))
origin_cut k o bytes e =
    e ∙ append_assoc (((((decimal k ++ codes ": sector ") ++ decimal o.0.0) ++ codes " seed ") ++ integral_text o.1) ++ codes " field ") (decimal o.2) (10 ∷ [])
    ∙ append_assoc ((((decimal k ++ codes ": sector ") ++ decimal o.0.0) ++ codes " seed ") ++ integral_text o.1) (codes " field ") (decimal o.2 ++ 10 ∷ [])
    ∙ append_assoc (((decimal k ++ codes ": sector ") ++ decimal o.0.0) ++ codes " seed ") (integral_text o.1) (number_cut o)
    ∙ append_assoc ((decimal k ++ codes ": sector ") ++ decimal o.0.0) (codes " seed ") (integral_text o.1 ++ number_cut o)
    ∙ append_assoc (decimal k ++ codes ": sector ") (decimal o.0.0) (codes " seed " ++ (integral_text o.1 ++ number_cut o))
    ∙ append_assoc (decimal k) (codes ": sector ") (decimal o.0.0 ++ (codes " seed " ++ (integral_text o.1 ++ number_cut o)))

-- the parts of an integral's text
pub record IntegralParts (n : ℕ) (powers : List ℤ) (rest bytes : List ℕ) : Type 0 where
  pub z : ℤ
  pub zs : List ℤ
  pub is : powers ≡ z ∷ zs
  pub first : IsPower n z
  pub others : AllByRecursion (IsPower n) zs
  pub front : bytes ≡ codes "[" ++ (separated signed_decimal (codes ",") z zs ++ (codes "]" ++ rest))

powers_are : (n : ℕ) (powers : List ℤ) → AllByRecursion (λ power. (neg_ℤ POWER ≤ℤ power) × (power ≤ℤ POWER)) powers
    → AllByRecursion (IsPower n) powers
powers_are n [] are = tt
powers_are n (z ∷ powers) are = (record { low = are.0.0; high = are.0.1 }, powers_are n powers are.1)

pub integral_parts : (n : ℕ) (powers : List ℤ) (rest bytes : List ℕ) → 1 ≤ n → IsIntegral n powers → bytes ≡ integral_text powers ++ rest → IntegralParts n powers rest bytes
integral_parts n [] rest bytes some is e = let none : 0 ≡ n = is.count in absurd (omega arith)
integral_parts n (z ∷ zs) rest bytes some is e =
    let are = powers_are n (z ∷ zs) (recursion_from_All _ (z ∷ zs) is.small) in
    let inside = joined signed_decimal (codes ",") (z ∷ zs) in
    record {
      z = z;
      zs = zs;
      is = refl;
      first = are.0;
      others = are.1;
      front = e ∙ append_assoc (codes "[" ++ inside) (codes "]") rest ∙ append_assoc (codes "[") inside (codes "]" ++ rest);
    }

pub small_sector : (s n : ℕ) → n ≤ 12 → s < 2 ^ n → s < 2 ^ 13
small_sector s n few below = omega (arith, below, pow_below n 13 (omega arith))

-- bytes that begin with a number don't begin with another byte
pub number_first : (k b : ℕ) (rest others : List ℕ) → k < 2 ^ 64 → is_ascii_digit b ≡ false → decimal k ++ rest ≢ b ∷ others
number_first k b rest others small not = go (decimal k) (digits_decimal own k small) (decimal_nonempty k small)
  where
    go : (ds : List ℕ) → list_all is_ascii_digit ds ≡ true → 0 < length ds → ds ++ rest ≢ b ∷ others
    go [] all some e = omega arith
    go (d ∷ ds) all some e =
        let is : d ≡ b = cc in
        let wrong : is_ascii_digit b ≡ true = subst (λ x. is_ascii_digit x ≡ true) is (first_passes (is_ascii_digit d) (list_all is_ascii_digit ds) all) in
        absurd (cc)

pub apart : (a b : ℕ) (x y : List ℕ) → a ≢ b → a ∷ x ≢ b ∷ y
apart a b x y differ e = let same : a ≡ b = cc in differ same

line_ends_poly_more : (r : List ℕ) → 10 ∷ [] ≢ codes " + " ++ r
line_ends_poly_more r = apart 10 32 [] (43 ∷ 32 ∷ r) (omega arith)

pub line_ends_poly : EndsPoly (10 ∷ [])
line_ends_poly = record { term = refl; no_more = line_ends_poly_more }

pub factor_ends_poly : (behind : List ℕ) → EndsPoly (codes " ; " ++ behind)
factor_ends_poly behind =
    record {
      term = refl;
      no_more = λ r e. let rest : 59 ∷ 32 ∷ behind ≡ 43 ∷ 32 ∷ r = cc in apart 59 43 (32 ∷ behind) (32 ∷ r) (omega arith) rest;
    }

-- the parts of a field's polynomials
pub record PolysParts (n : ℕ) (f : StrippedField) (bytes : List ℕ) : Type 0 where
  pub p : Polynomial
  pub ps : List Polynomial
  pub is : f.c ≡ p ∷ ps
  pub first : IsPolynomial n RUN_DEGREE p
  pub others : AllByRecursion (IsPolynomial n RUN_DEGREE) ps
  pub front : bytes ≡ separated poly_text (codes ", ") p ps ++ (codes " ; " ++ (poly_text f.b ++ 10 ∷ []))

pub polys_parts : (n : ℕ) (f : StrippedField) (bytes : List ℕ) → 1 ≤ n → IsStripped n f → bytes ≡ polys_cut f → PolysParts n f bytes
polys_parts n f bytes some is e = by f.c refl is.count (recursion_from_All (IsPolynomial n RUN_DEGREE) f.c is.polynomials)
  where
    by : (c : List Polynomial) → f.c ≡ c → length f.c ≡ n → AllByRecursion (IsPolynomial n RUN_DEGREE) f.c → PolysParts n f bytes
    by [] c_is count are = let none : length f.c ≡ 0 = ap length c_is in absurd (omega arith)
    by (p ∷ ps) c_is count are =
        let each = subst (λ (c : List Polynomial). AllByRecursion (IsPolynomial n RUN_DEGREE) c) c_is are in
        record {
          p = p;
          ps = ps;
          is = c_is;
          first = each.0;
          others = each.1;
          front = e ∙ ap (λ (c : List Polynomial). joined poly_text (codes ", ") c ++ (codes " ; " ++ (poly_text f.b ++ 10 ∷ []))) c_is;
        }

narrow_each : (powers : List ℤ) → ((i : ℕ) → LEAST_POWER ≤ℤ power_at powers i) → ((i : ℕ) → power_at powers i ≤ℤ GREATEST_POWER)
    → AllByRecursion (λ power. (LEAST_POWER ≤ℤ power) × (power ≤ℤ GREATEST_POWER)) powers
narrow_each [] low high = tt
narrow_each (z ∷ powers) low high = ((low 0, high 0), narrow_each powers (λ i. low (suc i)) (λ i. high (suc i)))

pub all_narrow : (n : ℕ) (powers : List ℤ) → ArePowers n powers → All (λ power. (LEAST_POWER ≤ℤ power) × (power ≤ℤ GREATEST_POWER)) powers
all_narrow n powers are = All-from_recursion _ powers (narrow_each powers are.low are.high)

small_each : (powers : List ℤ) → ((i : ℕ) → LEAST_POWER ≤ℤ power_at powers i) → ((i : ℕ) → power_at powers i ≤ℤ GREATEST_POWER)
    → AllByRecursion (λ power. (neg_ℤ POWER ≤ℤ power) × (power ≤ℤ POWER)) powers
small_each [] low high = tt
small_each (z ∷ powers) low high =
    let l : LEAST_POWER ≤ℤ z = low 0 in
    let h : z ≤ℤ GREATEST_POWER = high 0 in
    ((omega (arith, ints), omega (arith, ints)), small_each powers (λ i. low (suc i)) (λ i. high (suc i)))

pub narrow_is : (n : ℕ) (powers : List ℤ) → ArePowers n powers → IsIntegral n powers
narrow_is n powers are = record { count = are.count; small = All-from_recursion _ powers (small_each powers are.low are.high) }

-- a row with a term is longer than a zero
pub row_zero : (n : ℕ) (row : List (List ℤ × ℕ)) (bytes : List ℕ) → IsRow n row → bytes ≡ row_text row ++ 10 ∷ [] → bytes ≡ 48 ∷ 10 ∷ [] → row ≡ []
row_zero n [] bytes is e zero = refl
row_zero n (t ∷ row) bytes is e zero =
    let some : 0 < length (decimal t.1) = decimal_nonempty t.1 (omega (arith, is.canonical.1)) in
    let others = flat_map (λ u. codes " " ++ row_term_text u) row in
    let front = (decimal t.1 ++ codes "*I") ++ integral_text t.0 in
    absurd (omega (arith, some, ap length (sym e ∙ zero), length-append (front ++ others) (10 ∷ []), length-append front others, length-append (decimal t.1 ++ codes "*I") (integral_text t.0), length-append (decimal t.1) (codes "*I")))

abbrev sector_numbered : ℕ → Sector
sector_numbered k = record { 0 = k }

pub same_origin : (sector : Sector) (seed : List ℤ) (field : ℕ) (o : Origin) → sector.0 ≡ o.0.0 → seed ≡ o.1 → field ≡ o.2 → ◌≡◌ {A = Origin} (sector, seed, field) o
same_origin sector seed field o e f g =
    let first : sector ≡ o.0 = ap sector_numbered e in
    let one : ◌≡◌ {A = Origin} (sector, seed, field) (o.0, seed, field) = ap (λ (s : Sector). (s, seed, field)) first in
    let two : ◌≡◌ {A = Origin} (o.0, seed, field) (o.0, o.1, field) = ap (λ (t : List ℤ). (o.0, t, field)) f in
    let three : ◌≡◌ {A = Origin} (o.0, o.1, field) o = ap (λ (k : ℕ). (o.0, o.1, k)) g in
    one ∙ two ∙ three

abbrev field_of : List Polynomial → Polynomial → StrippedField
field_of c b = record { c = c; b = b }

pub same_field : (c : List Polynomial) (b : Polynomial) (f : StrippedField) → c ≡ f.c → b ≡ f.b → ◌≡◌ {A = StrippedField} (record { c = c; b = b }) f
same_field c b f e g = ap₂ field_of e g

-- weights begin with a number
pub weights_none : (weights : List (ℕ × ℕ)) (bytes : List ℕ) → AreWeights weights → bytes ≡ weights_text weights ++ 10 ∷ [] → bytes ≡ codes "none\n" → weights ≡ []
weights_none [] bytes are e none = refl
weights_none (w ∷ weights) bytes are e none =
    let others = flat_map (λ v. codes " " ++ weight_text v) weights in
    let first : bytes ≡ decimal w.0 ++ (codes ":" ++ (decimal w.1 ++ (others ++ 10 ∷ [])))
    = e ∙ append_assoc ((decimal w.0 ++ codes ":") ++ decimal w.1) others (10 ∷ []) ∙ append_assoc (decimal w.0 ++ codes ":") (decimal w.1) (others ++ 10 ∷ [])
    ∙ append_assoc (decimal w.0) (codes ":") (decimal w.1 ++ (others ++ 10 ∷ [])) in
    absurd (number_first w.0 110 (codes ":" ++ (decimal w.1 ++ (others ++ 10 ∷ []))) (codes "one\n") (omega (arith, are.each.0.few)) refl (sym first ∙ none))

pub some_weaken : {X : Type 0} (o : Option X) (P Q : X → Type 0) → ((x : X) → P x → Q x) → IsSomeWith o P → IsSomeWith o Q
some_weaken None P Q each h = h
some_weaken (Some x) P Q each h = each x h

-- The terms and vectors that the loops of the code have made.
use Rattle.std.proofs.Common.{◌≡◌, ℕ, suc, ◌+◌, ◌-◌, ◌<◌, ◌≤◌, ◌^◌, Bool, true, false, if◌then◌else◌, ◌==◌, List, [], ◌∷◌, ◌++◌, length, get_or, set, take, map, replicate, sum, sym, refl, ap, ◌∙◌, append_assoc, append-nil, arith}
use Rattle.std.proofs.lemmas.List.{take_more, take_all, length-take-le, map-append}
use Rattle.std.proofs.lemmas.Nat.Bits.{bit_at_above}
use Rattle.std.specs.List.{AllByRecursion}
use Rattle.std.proofs.lemmas.List.Elements.{All-weaker, recursion_from_All}
use Rattle.ibp_algebra.specs.FormalSum.{AllKeys, normal_form}
use Rattle.ibp_algebra.proofs.SumOfExponents.{one_less}
use Rattle.ibp_algebra.proofs.NormalForm.{IsCanonical-normal_form}
use Rattle.ibp_algebra.proofs.SumLaws.{SameCoefficients-sym, SameCoefficients-trans}
use Rattle.ibp_algebra.proofs.ZeroDivisors.{AllKeys-append}
use Rattle.ibp_algebra.specs.Polynomial.{Polynomial}
use Rattle.mono_order.specs.declared.limits.TheConstants.{VARIABLES, FIRST_HIGH}
use Rattle.mono_order.specs.Term.{Term}
use Rattle.mono_order.specs.TermOrder.{high_block}
use Rattle.mono_order.specs.BlockOrders.{over_position_laws, high_block_laws}
use Rattle.module_vec.specs.ModuleVector.{ModuleVector, SameVector}
use Rattle.module_vec.proofs.Multiples.{AllKeys-map_keys}
use Rattle.module_vec.proofs.NormalForms.{is_normal_form, SameVector-normal}
use Rattle.family.specs.declared.parts.StrippedField.{StrippedField}
use Rattle.family.specs.Shapes.{IsPolynomial, IsField}
use Rattle.family.specs.Conditions.{in_sector}
use Rattle.sector_module.specs.Factors.{at_component, unit_vector}
use Rattle.sector_module.specs.SectorBasis.{vector_of, field_vector}
use Rattle.sector_module.proofs.OneBasis.{with_last}
use Rattle.meet_module.specs.MeetRuns.{raised_term, doubled, divisor, divisor_exponents, divisors_from, stripped, stripped_term}
use Rattle.meet_module.proofs.Meeting.{raised, SameVector-doubled, divisor_at, divisor_last, length-divisors}

-- ---- fields

pub vector_of-append : (first : ℕ) (a b : List Polynomial) → vector_of first (a ++ b) ≡ vector_of first a ++ vector_of (first + length a) b
vector_of-append first [] b = ap (λ k. vector_of k b) (let e : first ≡ first + 0 = omega arith in e)
vector_of-append first (f ∷ a) b =
    let number : suc first + length a ≡ first + suc (length a) = omega arith in
    ap (λ (l : ModuleVector). at_component first f ++ l) (vector_of-append (suc first) a b ∙ ap (λ k. vector_of (suc first) a ++ vector_of k b) number)
    ∙ sym (append_assoc (at_component first f) (vector_of (suc first) a) (vector_of (first + suc (length a)) b))

vector_of-last : (first component : ℕ) (a : List Polynomial) (f : Polynomial) → component ≡ first + length a → vector_of first (a ++ f ∷ []) ≡ vector_of first a ++ at_component component f
vector_of-last first component a f is =
    vector_of-append first a (f ∷ [])
    ∙ ap (λ (l : ModuleVector). vector_of first a ++ l) (append-nil (at_component (first + length a) f) ∙ ap (λ k. at_component k f) (sym is))

pub field_more : (first i component : ℕ) (c : List Polynomial) (f : Polynomial) (old items new : ModuleVector) → i < length c → f ≡ get_or c i f → component ≡ first + i
    → new ≡ items ++ at_component component f → items ≡ old ++ vector_of first (take i c) → new ≡ old ++ vector_of first (take (i + 1) c)
field_more first i component c f old items new below is number pushed e =
    let long : length (take i c) ≡ i = length-take-le i c (omega arith) in
    let more : take (i + 1) c ≡ take i c ++ f ∷ [] = take_more c i f below ∙ ap (λ (g : Polynomial). take i c ++ g ∷ []) (sym is) in
    pushed ∙ ap (λ (l : ModuleVector). l ++ at_component component f) e ∙ append_assoc old (vector_of first (take i c)) (at_component component f)
    ∙ ap (λ (l : ModuleVector). old ++ l) (sym (vector_of-last first component (take i c) f (omega (arith, number, long))) ∙ ap (vector_of first) (sym more))

pub field_whole : (first i component : ℕ) (c d : List Polynomial) (b : Polynomial) (old items new : ModuleVector) → length c ≤ i → i ≤ length c → c ≡ d → component ≡ first + i
    → new ≡ items ++ at_component component b → items ≡ old ++ vector_of first (take i c) → new ≡ old ++ vector_of first (d ++ b ∷ [])
field_whole first i component c d b old items new whole within is number pushed e =
    let all : take i c ≡ c = take_all i c whole in
    pushed ∙ ap (λ (l : ModuleVector). l ++ at_component component b) (e ∙ ap (λ (l : List Polynomial). old ++ vector_of first l) all) ∙ append_assoc old (vector_of first c) (at_component component b)
    ∙ ap (λ (l : ModuleVector). old ++ l) (sym (vector_of-last first component c b (omega (arith, number, whole, within))))
    ∙ ap (λ (l : List Polynomial). old ++ vector_of first (l ++ b ∷ [])) is

-- ---- divisors

raised_more : (items new old : List ModuleVector) (ds : List ModuleVector) (i : ℕ) (v d : ModuleVector) → i < length ds → get_or ds i [] ≡ d → v ≡ normal_form high_block d
    → new ≡ items ++ v ∷ [] → items ≡ old ++ map (normal_form high_block) (take i ds) → new ≡ old ++ map (normal_form high_block) (take (i + 1) ds)
raised_more items new old ds i v d below at is pushed e =
    let nf = normal_form high_block in
    pushed ∙ (λ j. e j ++ is j ∷ []) ∙ append_assoc old (map nf (take i ds)) (nf d ∷ [])
    ∙ ap (λ (l : List ModuleVector). old ++ l)
    (sym (map-append nf (take i ds) (d ∷ [])) ∙ ap (map nf) (ap (λ (x : ModuleVector). take i ds ++ x ∷ []) (sym at) ∙ sym (take_more ds i [] below)))

pub divisors_more : (n sector i number lower : ℕ) (m : List ℕ) (items new old : List ModuleVector) (v : ModuleVector) → i < n → number ≡ suc i → lower ≡ i → m ≡ divisor_exponents sector lower
    → v ≡ normal_form high_block (((FIRST_HIGH + number, m), 1) ∷ []) → new ≡ items ++ v ∷ []
    → items ≡ old ++ map (normal_form high_block) (take i (divisors_from sector 0 n)) → new ≡ old ++ map (normal_form high_block) (take (i + 1) (divisors_from sector 0 n))
divisors_more n sector i number lower m items new old v below numbered lowered exponents is pushed e =
    let at : get_or (divisors_from sector 0 n) i [] ≡ divisor sector i = divisor_at sector 0 n i below ∙ ap (divisor sector) (let k : 0 + i ≡ i = omega arith in k) in
    let same : v ≡ normal_form high_block (divisor sector i) =
    is ∙ (λ j. normal_form high_block (((FIRST_HIGH + numbered j, (exponents ∙ ap (divisor_exponents sector) lowered) j), 1) ∷ []))
    in
    raised_more items new old (divisors_from sector 0 n) i v (divisor sector i) (omega (arith, below, length-divisors sector 0 n)) at same pushed e

pub divisors_whole : (n sector i number : ℕ) (m : List ℕ) (items new old : List ModuleVector) (v : ModuleVector) → i ≡ n → number ≡ suc n → m ≡ replicate VARIABLES 0
    → v ≡ normal_form high_block (((FIRST_HIGH + number, m), 1) ∷ []) → new ≡ items ++ v ∷ []
    → items ≡ old ++ map (normal_form high_block) (take i (divisors_from sector 0 n)) → new ≡ old ++ map (normal_form high_block) (divisors_from sector 0 n)
divisors_whole n sector i number m items new old v ended numbered one is pushed e =
    let ds = divisors_from sector 0 n in
    let at : get_or ds i [] ≡ unit_vector VARIABLES (FIRST_HIGH + suc n) =
    ap (λ k. get_or ds k []) ended ∙ divisor_last sector 0 n ∙ ap (λ k. unit_vector VARIABLES (FIRST_HIGH + suc k)) (let k : 0 + n ≡ n = omega arith in k)
    in
    let same : v ≡ normal_form high_block (unit_vector VARIABLES (FIRST_HIGH + suc n)) = is ∙ (λ j. normal_form high_block (((FIRST_HIGH + numbered j, one j), 1) ∷ [])) in
    raised_more items new old ds i v (unit_vector VARIABLES (FIRST_HIGH + suc n)) (omega (arith, ended, length-divisors sector 0 n)) at same pushed e
    ∙ ap (λ (l : List ModuleVector). old ++ map (normal_form high_block) l) (take_all (i + 1) ds (omega (arith, ended, length-divisors sector 0 n)))

-- ---- stripping

-- the component of the factor b has no variable
pub outside_term : (n sector : ℕ) (t : Term) → sector < 2 ^ n → n < t.0 → stripped_term sector t ≡ t
outside_term n sector t small above =
    let outside : in_sector sector (t.0 - 1) ≡ false = ap (λ k. k == 1) (bit_at_above sector n (t.0 - 1) small (omega (arith, above))) in
    let same : (stripped_term sector t).1 ≡ t.1 = ap (λ (b : Bool). if b then set t.1 (t.0 - 1) (get_or t.1 (t.0 - 1) 0 - 1) else t.1) outside in
    λ i. (t.0, same i)

pub inside_not : (sector : ℕ) (t : Term) → in_sector sector (t.0 - 1) ≡ false → stripped_term sector t ≡ t
inside_not sector t outside =
    let same : (stripped_term sector t).1 ≡ t.1 = ap (λ (b : Bool). if b then set t.1 (t.0 - 1) (get_or t.1 (t.0 - 1) 0 - 1) else t.1) outside in
    λ i. (t.0, same i)

within_if : (limit i : ℕ) (b : Bool) (m : List ℕ) → sum m ≤ limit → sum (if b then set m i (get_or m i 0 - 1) else m) ≤ limit
within_if limit i true m h = omega (arith, one_less i m, h)
within_if limit i false m h = h

pub stripped_within : (limit sector : ℕ) (v : ModuleVector) → AllKeys (λ t. sum t.1 ≤ limit) v → AllKeys (λ t. sum t.1 ≤ limit) (stripped sector v)
stripped_within limit sector [] h = tt
stripped_within limit sector (t ∷ v) h = (within_if limit (t.0.0 - 1) (in_sector sector (t.0.0 - 1)) t.0.1 h.0, stripped_within limit sector v h.1)

-- ---- a field beside its raised copy

vector_within : (limit first : ℕ) (fs : List Polynomial) → AllByRecursion (AllKeys (λ m. sum m ≤ limit)) fs → AllKeys (λ t. sum t.1 ≤ limit) (vector_of first fs)
vector_within limit first [] h = tt
vector_within limit first (f ∷ fs) h =
    AllKeys-append (λ t. sum t.1 ≤ limit) (at_component first f) (vector_of (suc first) fs) (AllKeys-map_keys (λ m. sum m ≤ limit) (λ t. sum t.1 ≤ limit) (λ m. (first, m)) (λ m le. le) f h.0)
    (vector_within limit (suc first) fs h.1)

pub doubled_within : (limit n second : ℕ) (field : StrippedField) → IsField n limit field.c field.b
    → AllKeys (λ t. sum t.1 ≤ limit) (vector_of 1 (field.c ++ field.b ∷ []) ++ vector_of second (field.c ++ field.b ∷ []))
doubled_within limit n second field h =
    let fs = field.c ++ field.b ∷ [] in
    let each : AllByRecursion (AllKeys (λ m. sum m ≤ limit)) fs =
    with_last (AllKeys (λ m. sum m ≤ limit)) field.c
    (recursion_from_All (AllKeys (λ m. sum m ≤ limit)) field.c (All-weaker (IsPolynomial n limit) (AllKeys (λ m. sum m ≤ limit)) (λ f k. k.degree_within) field.c h.polynomials)) field.b h.factor.degree_within
    in
    AllKeys-append (λ t. sum t.1 ≤ limit) (vector_of 1 fs) (vector_of second fs) (vector_within limit 1 fs each) (vector_within limit second fs each)

raised_append : (v w : ModuleVector) → raised (v ++ w) ≡ raised v ++ raised w
raised_append v w = map-append (λ term. (raised_term term.0, term.1)) v w

raised_component : (i : ℕ) (f : Polynomial) → raised (at_component i f) ≡ at_component (FIRST_HIGH + i) f
raised_component i [] = refl
raised_component i (t ∷ f) = λ j. ((FIRST_HIGH + i, t.0), t.1) ∷ raised_component i f j

raised_vector : (first : ℕ) (fs : List Polynomial) → raised (vector_of first fs) ≡ vector_of (FIRST_HIGH + first) fs
raised_vector first [] = refl
raised_vector first (f ∷ fs) =
    let next : FIRST_HIGH + suc first ≡ suc (FIRST_HIGH + first) = omega arith in
    raised_append (at_component first f) (vector_of (suc first) fs)
    ∙ (λ j. raised_component first f j ++ (raised_vector (suc first) fs ∙ ap (λ k. vector_of k fs) next) j)

pub doubled_normal : (field : StrippedField)
    → normal_form high_block (vector_of 1 (field.c ++ field.b ∷ []) ++ vector_of (FIRST_HIGH + 1) (field.c ++ field.b ∷ [])) ≡ normal_form high_block (doubled (field_vector field))
doubled_normal field =
    let raw = vector_of 1 (field.c ++ field.b ∷ []) in
    let order = high_block_laws VARIABLES in
    let both : raw ++ vector_of (FIRST_HIGH + 1) (field.c ++ field.b ∷ []) ≡ doubled raw = ap (λ (l : ModuleVector). raw ++ l) (sym (raised_vector 1 (field.c ++ field.b ∷ []))) in
    let is : SameVector raw (field_vector field) = SameCoefficients-sym (SameVector-normal (over_position_laws VARIABLES) (field_vector field) raw refl) in
    ap (normal_form high_block) both
    ∙ is_normal_form order (normal_form high_block (doubled raw)) (doubled (field_vector field)) (IsCanonical-normal_form high_block order.total order.unique (doubled raw))
    (SameCoefficients-trans (SameVector-normal order (normal_form high_block (doubled raw)) (doubled raw) refl) (SameVector-doubled raw (field_vector field) is))

mapped_thrice : (fields : List StrippedField) → map (λ field. normal_form high_block (doubled (field_vector field))) fields ≡ map (normal_form high_block) (map doubled (map field_vector fields))
mapped_thrice [] = refl
mapped_thrice (f ∷ fields) = λ i. normal_form high_block (doubled (field_vector f)) ∷ mapped_thrice fields i

pub generators_are : (fields : List StrippedField) (ds items first second : List ModuleVector) → items ≡ [] → first ≡ items ++ map (λ field. normal_form high_block (doubled (field_vector field))) fields
    → second ≡ first ++ map (normal_form high_block) ds → second ≡ map (normal_form high_block) (map doubled (map field_vector fields) ++ ds)
generators_are fields ds items first second none doubles all =
    let nf = normal_form high_block in
    all ∙ ap (λ (l : List ModuleVector). l ++ map nf ds) (doubles ∙ ap (λ (l : List ModuleVector). l ++ map (λ field. nf (doubled (field_vector field))) fields) none ∙ mapped_thrice fields)
    ∙ sym (map-append nf (map doubled (map field_vector fields)) ds)

-- The polynomial at a component, term by term.
use Rattle.std.proofs.Common.{◌≡◌, ℕ, ◌+◌, ◌<◌, ◌≤◌, Bool, true, false, if◌then◌else◌, length, get_or, take, List, [], ◌∷◌, ◌++◌, sym, refl, ap, ◌∙◌}
use Rattle.std.specs.Prelude.{nat_eq}
use Rattle.std.proofs.lemmas.List.{append-nil, take_more, take_all}
use Rattle.ibp_algebra.specs.FormalSum.{AllKeys}
use Rattle.ibp_algebra.specs.Polynomial.{Polynomial}
use Rattle.mono_order.specs.Term.{Term}
use Rattle.module_vec.specs.ModuleVector.{ModuleVector, component_of}

moved : (b : Bool) (t : List ℕ × ℕ) (f g : Polynomial) → (if b then (t ∷ (f ++ g)) else (f ++ g)) ≡ (if b then (t ∷ f) else f) ++ g
moved true t f g = refl
moved false t f g = refl

component_of-append : (i : ℕ) (v w : ModuleVector) → component_of i (v ++ w) ≡ component_of i v ++ component_of i w
component_of-append i [] w = refl
component_of-append i (t ∷ v) w =
    ap (λ (f : Polynomial). if nat_eq t.0.0 i then ((t.0.1, t.1) ∷ f) else f) (component_of-append i v w)
    ∙ moved (nat_eq t.0.0 i) (t.0.1, t.1) (component_of i v) (component_of i w)

component_more : (c : ℕ) (v : ModuleVector) (i : ℕ) (item : Term × ℕ) → i < length v → item ≡ get_or v i item
    → component_of c (take (i + 1) v) ≡ component_of c (take i v) ++ component_of c (item ∷ [])
component_more c v i item below is =
    ap (component_of c) (take_more v i item below ∙ ap (λ (t : Term × ℕ). take i v ++ t ∷ []) (sym is)) ∙ component_of-append c (take i v) (item ∷ [])

-- a term of the component
pub component_taken : (c : ℕ) (v : ModuleVector) (items made new : Polynomial) (i : ℕ) (item : Term × ℕ) (key : List ℕ) → i < length v → item ≡ get_or v i item → nat_eq item.0.0 c ≡ true
    → key ≡ item.0.1 → new ≡ made → made ≡ items ++ (key, item.1) ∷ [] → items ≡ component_of c (take i v) → new ≡ component_of c (take (i + 1) v)
component_taken c v items made new i item key below is here key_is same pushed h =
    let last : component_of c (item ∷ []) ≡ (item.0.1, item.1) ∷ [] = ap (λ b. if b then ((item.0.1, item.1) ∷ []) else []) here in
    same ∙ pushed ∙ (λ j. items ++ (key_is j, item.1) ∷ []) ∙ (λ j. h j ++ sym last j) ∙ sym (component_more c v i item below is)

-- a term of another one
pub component_left : (c : ℕ) (v : ModuleVector) (items new : Polynomial) (i : ℕ) (item : Term × ℕ) → i < length v → item ≡ get_or v i item → nat_eq item.0.0 c ≡ false
    → new ≡ items → items ≡ component_of c (take i v) → new ≡ component_of c (take (i + 1) v)
component_left c v items new i item below is other kept h =
    let last : component_of c (item ∷ []) ≡ [] = ap (λ b. if b then ((item.0.1, item.1) ∷ []) else []) other in
    kept ∙ h ∙ sym (append-nil (component_of c (take i v))) ∙ (λ j. component_of c (take i v) ++ sym last j) ∙ sym (component_more c v i item below is)

pub component_whole : (c : ℕ) (v w : ModuleVector) (i : ℕ) → length v ≤ i → v ≡ w → component_of c (take i v) ≡ component_of c w
component_whole c v w i done is = ap (component_of c) (take_all i v done ∙ is)

component_keys_if : (P : List ℕ → Type 0) (b : Bool) (t : Term × ℕ) (f : Polynomial) → P t.0.1 → AllKeys P f → AllKeys P (if b then ((t.0.1, t.1) ∷ f) else f)
component_keys_if P true t f p h = (p, h)
component_keys_if P false t f p h = h

-- what holds of the exponents of each term holds of those of a component
pub component_keys : (P : List ℕ → Type 0) (i : ℕ) (v : ModuleVector) → AllKeys (λ t. P t.1) v → AllKeys P (component_of i v)
component_keys P i [] h = tt
component_keys P i (t ∷ v) h = component_keys_if P (nat_eq t.0.0 i) t (component_of i v) h.0 (component_keys P i v h.1)

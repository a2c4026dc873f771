-- The product of linear forms, term by term.
use Rattle.std.proofs.Common.{◌≡◌, ℕ, ◌+◌, ◌<◌, ◌≤◌, List, [], ◌∷◌, ◌++◌, map, length, get_or, take, append-nil, sym, ◌∙◌, ap}
use Rattle.std.specs.List.{flat_map}
use Rattle.std.proofs.lemmas.List.{take_all, take_more}
use Rattle.std.proofs.lemmas.List.Concat.{flat_map-append}
use Rattle.ibp_field.specs.Arithmetic.{mul_mod}
use Rattle.ibp_algebra.specs.Exponents.{add_exponents}
use Rattle.ibp_algebra.specs.Polynomial.{Polynomial}
use Rattle.family_file.specs.Drill.{product_by}

abbrev pub times : ℕ → Polynomial → List ℕ × ℕ → Polynomial
times factor g l = map (λ r. (add_exponents l.0 r.0, mul_mod factor (mul_mod l.1 r.1))) g

pub product_more : (factor : ℕ) (f g : Polynomial) (i : ℕ) (x : List ℕ × ℕ) → i < length f → x ≡ get_or f i x → product_by factor (take (i + 1) f) g ≡ product_by factor (take i f) g ++ times factor g x
product_more factor f g i x within is =
    ap (λ (ts : Polynomial). product_by factor ts g) (take_more f i x within) ∙ flat_map-append (times factor g) (take i f) (get_or f i x ∷ [])
    ∙ ap (λ (ts : Polynomial). product_by factor (take i f) g ++ ts) (append-nil (times factor g (get_or f i x)))
    ∙ ap (λ (t : List ℕ × ℕ). product_by factor (take i f) g ++ times factor g t) (sym is)

pub product_whole : (factor : ℕ) (f g : Polynomial) (i : ℕ) → length f ≤ i → product_by factor (take i f) g ≡ product_by factor f g
product_whole factor f g i long = ap (λ (ts : Polynomial). product_by factor ts g) (take_all i f long)

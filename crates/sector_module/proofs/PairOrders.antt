-- The degrees of components, one after the other.
use Rattle.std.proofs.Common.{◌≡◌, ℕ, suc, ◌+◌, ◌-◌, ◌<◌, Bool, if◌then◌else◌, List, [], ◌∷◌, ◌++◌, sym, ap, ◌∙◌, arith}
use Rattle.std.proofs.lemmas.List.{append_assoc}
use Rattle.sector_module.specs.PairOrders.{degrees_from}

pub degrees_more : (degree : ℕ) (inside : ℕ → Bool) (n place d : ℕ) (items after whole : List ℕ) → place < n → d ≡ degree - 1 + (if inside place then 1 else 0) → after ≡ items ++ d ∷ []
    → items ++ degrees_from degree inside place (n - place) ≡ whole → after ++ degrees_from degree inside (place + 1) (n - (place + 1)) ≡ whole
degrees_more degree inside n place d items after whole below is added before =
    let rest = degrees_from degree inside (place + 1) (n - (place + 1)) in
    let left : n - place ≡ suc (n - (place + 1)) = omega (arith, below) in
    let next : suc place ≡ place + 1 = omega arith in
    let step : degrees_from degree inside place (n - place) ≡ (degree - 1 + (if inside place then 1 else 0)) ∷ rest =
    ap (degrees_from degree inside place) left ∙ ap (λ k. (degree - 1 + (if inside place then 1 else 0)) ∷ degrees_from degree inside k (n - (place + 1))) next
    in
    ap (λ (l : List ℕ). l ++ rest) added ∙ (append_assoc items (d ∷ []) rest ∙ (ap (λ k. items ++ k ∷ rest) is ∙ (ap (λ (l : List ℕ). items ++ l) (sym step) ∙ before)))

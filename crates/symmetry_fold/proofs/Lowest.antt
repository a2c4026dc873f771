-- The lowest of an integral and one image more.
use Rattle.std.proofs.Common.{◌≡◌, ℕ, ◌+◌, ◌<◌, Bool, cond, List, [], ◌∷◌, ◌++◌, length, get_or, take, refl, sym, ap, ◌∙◌}
use Rattle.std.specs.Prelude.{ℤ, map}
use Rattle.std.specs.List.{best_of}
use Rattle.std.proofs.lemmas.List.{map_more}
use Rattle.symmetry_fold.specs.Images.{image, images, is_lower, lowest}

best_of_more : {X : Type 0} (beats : X → X → Bool) (a : X) (xs : List X) (x : X) → best_of beats a (xs ++ x ∷ []) ≡ cond (beats x (best_of beats a xs)) x (best_of beats a xs)
best_of_more beats a [] x = refl
best_of_more beats a (y ∷ xs) x = best_of_more beats (cond (beats y a) y a) xs x

pub lowest_more : (entries : List (List ℕ)) (powers : List ℤ) (i : ℕ) (entry : List ℕ) (best other : List ℤ) → i < length entries → entry ≡ get_or entries i entry
    → other ≡ image entry powers → best ≡ lowest (take i entries) powers → lowest (take (i + 1) entries) powers ≡ cond (is_lower other best) other best
lowest_more entries powers i entry best other inside is made so_far =
    let next : images (take (i + 1) entries) powers ≡ images (take i entries) powers ++ image (get_or entries i entry) powers ∷ [] = map_more {Y = List ℤ} (λ sigma. image sigma powers) entries i entry inside in
    ap (best_of is_lower powers) next
    ∙ best_of_more is_lower powers (images (take i entries) powers) (image (get_or entries i entry) powers)
    ∙ ap (λ (x : List ℤ). cond (is_lower x (lowest (take i entries) powers)) x (lowest (take i entries) powers)) (ap (λ (e : List ℕ). image e powers) (sym is) ∙ sym made)
    ∙ ap (λ (b : List ℤ). cond (is_lower other b) other b) (sym so_far)

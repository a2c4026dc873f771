-- Looking a name up among entries.
use Rattle.std.proofs.Common.{◌≡◌, ℕ, List, ◌∷◌, Bool, true, false, cond, sym, ap, subst, ◌∙◌}
use Rattle.std.specs.Prelude.{Option, Some, nat_eq}
use Rattle.std.specs.Bool.{Decides}
use Rattle.std.specs.Ordering.{nat_cmp}
use Rattle.std.specs.Str.{bytes_eq}
use Rattle.std.specs.Cmp.Lexicographic.{slice_cmp, pointwise}
use Rattle.std.proofs.lemmas.Slice.Eq.{bytes_eq-Decides}
use Rattle.std.proofs.lemmas.Map.Text.{is_eq-slice_cmp}
use Rattle.std.proofs.lemmas.Bool.Decides.{Decides-like, same_from_decides}
use Rattle.std.specs.FinMap.{find}

pub found_first : (name key k : List ℕ) (v : ℕ) (es : List (List ℕ × ℕ)) (r : Bool) → r ≡ pointwise nat_eq k name → k ≡ key
    → find (slice_cmp nat_cmp) name ((key, v) ∷ es) ≡ cond r (Some v) (find (slice_cmp nat_cmp) name es)
found_first name key k v es r is same =
    let turned : bytes_eq name key ≡ r =
    same_from_decides (bytes_eq name key) r (bytes_eq-Decides name key)
    (Decides-like r (λ (e : k ≡ name). sym e ∙ same) (λ (e : name ≡ key). same ∙ sym e) (subst (λ b. Decides b (k ≡ name)) (sym is) (bytes_eq-Decides k name)))
    in
    ap (λ b. cond b (Some v) (find (slice_cmp nat_cmp) name es)) (is_eq-slice_cmp name key ∙ turned)

pub found : (name key k : List ℕ) (v : ℕ) (es : List (List ℕ × ℕ)) (r : Bool) (whole : Option ℕ) (all : List (List ℕ × ℕ)) → r ≡ pointwise nat_eq k name → k ≡ key → r ≡ true
    → all ≡ (key, v) ∷ es → whole ≡ find (slice_cmp nat_cmp) name all → Some v ≡ whole
found name key k v es r whole all is same yes_it at e =
    sym (e ∙ ap (find (slice_cmp nat_cmp) name) at ∙ found_first name key k v es r is same ∙ ap (λ b. cond b (Some v) (find (slice_cmp nat_cmp) name es)) yes_it)

pub passed : (name key k : List ℕ) (v : ℕ) (es : List (List ℕ × ℕ)) (r : Bool) (whole : Option ℕ) (all : List (List ℕ × ℕ)) → r ≡ pointwise nat_eq k name → k ≡ key → r ≡ false
    → all ≡ (key, v) ∷ es → whole ≡ find (slice_cmp nat_cmp) name all → whole ≡ find (slice_cmp nat_cmp) name es
passed name key k v es r whole all is same no_it at e =
    e ∙ ap (find (slice_cmp nat_cmp) name) at ∙ found_first name key k v es r is same ∙ ap (λ b. cond b (Some v) (find (slice_cmp nat_cmp) name es)) no_it

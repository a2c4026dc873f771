-- The first line of a text.
use Rattle.std.proofs.Common.{◌≡◌, ◌≢◌, ℕ, suc, ◌+◌, ◌≤◌, ◌<◌, List, [], ◌∷◌, ◌++◌, length, drop, take, Bool, true, false, cond, refl, sym, ap, ◌∙◌, arith, length-append, inl, inr}
use Rattle.std.specs.Prelude.{◌==◌, not, ◌⊎◌}
use Rattle.std.specs.List.{prefix_len}
use Rattle.line_reader.specs.Lines.{is_inside, lines, onto_first, IsWhole}

-- by whether the first byte ends the line
pub first_line : (bytes : List ℕ) → prefix_len is_inside bytes < length bytes
    → lines bytes ≡ take (suc (prefix_len is_inside bytes)) bytes ∷ lines (drop (suc (prefix_len is_inside bytes)) bytes)
unfolding lines
first_line [] h = absurd (omega arith)
first_line (b ∷ bytes) h = by (λ less. first_line bytes less) (b == 10) h
  where
    by : (prefix_len is_inside bytes < length bytes → lines bytes ≡ take (suc (prefix_len is_inside bytes)) bytes ∷ lines (drop (suc (prefix_len is_inside bytes)) bytes))
        → (here : Bool) → cond (not here) (1 + prefix_len is_inside bytes) 0 < suc (length bytes)
        → cond here ((b ∷ []) ∷ lines bytes) (onto_first b (lines bytes))
        ≡ take (suc (cond (not here) (1 + prefix_len is_inside bytes) 0)) (b ∷ bytes) ∷ lines (drop (suc (cond (not here) (1 + prefix_len is_inside bytes) 0)) (b ∷ bytes))
    by others true less = refl
    by others false less =
        let up : suc (prefix_len is_inside bytes) ≡ 1 + prefix_len is_inside bytes = omega arith in
        ap (onto_first b) (others (omega arith))
        ∙ ap (λ i. (b ∷ take i bytes) ∷ lines (drop i bytes)) up

-- where no byte 10 is left, the bytes are one line
only_line : (b : ℕ) (bytes : List ℕ) → prefix_len is_inside bytes ≡ length bytes → onto_first b (lines bytes) ≡ (b ∷ bytes) ∷ []
unfolding lines
only_line b [] h = refl
only_line b (c ∷ bytes) h = by (λ e. only_line c bytes e) (c == 10) h
  where
    by : (prefix_len is_inside bytes ≡ length bytes → onto_first c (lines bytes) ≡ (c ∷ bytes) ∷ []) → (here : Bool) → cond (not here) (1 + prefix_len is_inside bytes) 0 ≡ suc (length bytes)
        → onto_first b (cond here ((c ∷ []) ∷ lines bytes) (onto_first c (lines bytes))) ≡ (b ∷ (c ∷ bytes)) ∷ []
    by others true h = absurd (omega arith)
    by others false h = ap (onto_first b) (others (omega arith))

last_line : (bytes : List ℕ) → prefix_len is_inside bytes ≡ length bytes → (line : List ℕ) (others : List (List ℕ)) → lines bytes ≡ line ∷ others
    → line ≡ bytes
unfolding lines
last_line [] h line others e = absurd (cc)
last_line (b ∷ bytes) h line others e = by (b == 10) h e
  where
    by : (here : Bool) → cond (not here) (1 + prefix_len is_inside bytes) 0 ≡ suc (length bytes)
        → cond here ((b ∷ []) ∷ lines bytes) (onto_first b (lines bytes)) ≡ line ∷ others → line ≡ b ∷ bytes
    by true h e = absurd (omega arith)
    by false h e = let only = only_line b bytes (omega arith) in cc

no_break : (front more : List ℕ) → prefix_len is_inside (front ++ 10 ∷ more) ≤ length front
no_break [] more = omega arith
no_break (b ∷ front) more = by (no_break front more) (b == 10)
  where
    by : prefix_len is_inside (front ++ 10 ∷ more) ≤ length front → (here : Bool) → cond (not here) (1 + prefix_len is_inside (front ++ 10 ∷ more)) 0 ≤ suc (length front)
    by others true = omega arith
    by others false = omega arith

-- no whole line is next where the first one is empty
none_at_break : (bytes : List ℕ) → prefix_len is_inside bytes ≡ 0 → (line : List ℕ) (others : List (List ℕ)) → IsWhole line → lines bytes ≢ line ∷ others
unfolding lines
none_at_break [] h line others is e = absurd (cc)
none_at_break (b ∷ bytes) h line others (c, front, is) e = by (b == 10) h e
  where
    by : (here : Bool) → cond (not here) (1 + prefix_len is_inside bytes) 0 ≡ 0
        → cond here ((b ∷ []) ∷ lines bytes) (onto_first b (lines bytes)) ≡ line ∷ others → ⊥
    by true h e =
        let one : line ≡ b ∷ [] = cc in
        omega (arith, ap length (sym one ∙ is), length-append front (10 ∷ []))
    by false h e = omega arith

pub none_next : (bytes : List ℕ) (len : ℕ) → len ≡ prefix_len is_inside bytes → (len ≡ 0) ⊎ (len ≡ length bytes)
    → (line : List ℕ) (others : List (List ℕ)) → IsWhole line → lines bytes ≢ line ∷ others
none_next bytes len len_is (inl h) line others is e = none_at_break bytes (sym len_is ∙ h) line others is e
none_next bytes len len_is (inr h) line others (c, front, is) e =
    let whole : line ≡ bytes = last_line bytes (sym len_is ∙ h) line others e in
    let same : bytes ≡ (c ∷ front) ++ 10 ∷ [] = sym whole ∙ is in
    omega (arith, no_break (c ∷ front) [], ap (prefix_len is_inside) same, ap length same, length-append (c ∷ front) (10 ∷ []))

pub next_line : (bytes front back : List ℕ) (len : ℕ) → len ≡ prefix_len is_inside bytes → len ≢ length bytes → len ≤ length bytes
    → front ≡ take (len + 1) bytes → back ≡ drop (len + 1) bytes → lines bytes ≡ front ∷ lines back
next_line bytes front back len len_is other within front_is back_is =
    let up : suc (prefix_len is_inside bytes) ≡ len + 1 = omega arith in
    first_line bytes (omega arith)
    ∙ ap (λ i. take i bytes ∷ lines (drop i bytes)) up
    ∙ ap (λ (t : List ℕ). t ∷ lines (drop (len + 1) bytes)) (sym front_is)
    ∙ ap (λ (t : List ℕ). front ∷ lines t) (sym back_is)

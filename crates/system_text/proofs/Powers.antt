-- The text of the powers that are left, one variable on.
use Rattle.std.proofs.Common.{◌≡◌, ℕ, suc, ◌+◌, ◌-◌, ◌<◌, ◌≤◌, List, [], ◌++◌, length, get_or, drop, sym, ap, ap₂, ◌∙◌, append_assoc, append-nil, arith}
use Rattle.std.proofs.lemmas.List.{drop_more, nil_from_length, length-drop}
use Rattle.system_text.specs.Texts.{power_text, powers_text}

pub powers_next : (m : List ℕ) (i : ℕ) → 1 ≤ i → i ≤ length m
    → powers_text i (drop (i - 1) m) ≡ power_text i (get_or m (i - 1) 0) ++ powers_text (i + 1) (drop ((i + 1) - 1) m)
powers_next m i low high =
    let next : (i - 1) + 1 ≡ i = omega arith in
    let after : (i + 1) - 1 ≡ i = omega arith in
    let up : suc i ≡ i + 1 = omega arith in
    let left = drop_more m (i - 1) 0 (omega arith) in
    ap (powers_text i) left
    ∙ ap₂ (λ k (rest : List ℕ). power_text i (get_or m (i - 1) 0) ++ powers_text k rest) up (ap (λ k. drop k m) (next ∙ sym after))

-- what was put before, then one more power
pub put_next : (before after whole : List ℕ) (m : List ℕ) (i : ℕ) → 1 ≤ i → i ≤ length m
    → before ++ powers_text i (drop (i - 1) m) ≡ whole → after ≡ before ++ power_text i (get_or m (i - 1) 0)
    → after ++ powers_text (i + 1) (drop ((i + 1) - 1) m) ≡ whole
put_next before after whole m i low high so_far is =
    ap (λ (text : List ℕ). text ++ powers_text (i + 1) (drop ((i + 1) - 1) m)) is
    ∙ append_assoc before (power_text i (get_or m (i - 1) 0)) (powers_text (i + 1) (drop ((i + 1) - 1) m))
    ∙ ap (λ (text : List ℕ). before ++ text) (sym (powers_next m i low high))
    ∙ so_far

-- no power is left
pub put_all : (text whole : List ℕ) (m : List ℕ) (i : ℕ) → length m < i
    → text ++ powers_text i (drop (i - 1) m) ≡ whole → text ≡ whole
put_all text whole m i past put =
    let none : drop (i - 1) m ≡ [] = nil_from_length _ (omega (arith, length-drop (i - 1) m)) in
    sym (ap (λ (rest : List ℕ). text ++ powers_text i rest) none ∙ append-nil text) ∙ put

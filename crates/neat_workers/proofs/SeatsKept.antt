-- Seats whose parts stayed have all parts as before.
use Rattle.std.proofs.Common.{◌≡◌, ℕ, suc, ◌<◌, List, [], ◌∷◌, ◌++◌, length, take, drop, get_or, refl, sym, ◌∙◌, ap, subst, arith, append-nil}
use Rattle.std.specs.Prelude.{sum_by}
use Rattle.std.proofs.lemmas.List.Sums.{sum_by-cons}
use Rattle.std.proofs.lemmas.List.{take_all, drop_all}
use Rattle.relay_desk.specs.Desk.{Place, HaveAll}
use Rattle.neat_workers.specs.Seats.{KeepsParts}

same_sum : (part : Place → ℕ) (before after : List Place) → length after ≡ length before → ((i : ℕ) (d : Place) → i < length before → part (get_or after i d) ≡ part (get_or before i d)) → sum_by part after ≡ sum_by part before
same_sum part [] [] long same = refl
same_sum part [] (y ∷ ys) long same = absurd (omega arith)
same_sum part (x ∷ xs) [] long same = absurd (omega arith)
same_sum part (x ∷ xs) (y ∷ ys) long same =
    let first : part y ≡ part x = same 0 x (omega arith) in
    let rest : sum_by part ys ≡ sum_by part xs = same_sum part xs ys (omega arith) (λ i d inside. same (suc i) d (omega arith)) in
    omega (arith, sum_by-cons part y ys, sum_by-cons part x xs)

pub still_all : (before after items : List Place) (n finish_parts closing_parts : ℕ) → length after ≡ length before → n ≡ length before → before ≡ items → ((i : ℕ) (d : Place) → i < length before → KeepsParts (get_or before i d) (get_or after i d)) →
    HaveAll items finish_parts closing_parts → HaveAll (take n (after ++ drop (length after) items)) finish_parts closing_parts
still_all before after items n finish_parts closing_parts long count is same all =
    let rest : drop (length after) items ≡ [] = drop_all (length after) items (omega (arith, ap length is)) in
    let written : take n (after ++ drop (length after) items) ≡ after = ap (λ xs. take n (after ++ xs)) rest ∙ ap (take n) (append-nil after) ∙ take_all n after (omega arith) in
    subst (λ xs. HaveAll xs finish_parts closing_parts) (sym written) (record {
      finishes = same_sum (λ place. place.finish_parts) before after long (λ i d inside. (same i d inside).finish_parts) ∙ ap (sum_by (λ place. place.finish_parts)) is ∙ all.finishes;
      closings = same_sum (λ place. place.closing_parts) before after long (λ i d inside. (same i d inside).closing_parts) ∙ ap (sum_by (λ place. place.closing_parts)) is ∙ all.closings;
    })

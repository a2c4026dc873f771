-- One more term of a formal sum whose terms are struck and moved.
use Rattle.std.proofs.Common.{◌≡◌, ℕ, ◌+◌, ◌<◌, Bool, true, false, cond, [], ◌∷◌, ◌++◌, length, get_or, take, append-nil, append_assoc, refl, sym, ◌∙◌, ap}
use Rattle.std.proofs.lemmas.List.{take_more, map-append}
use Rattle.ibp_algebra.specs.FormalSum.{FormalSum, map_keys, strike}

strike-append : {K : Type 0} (test : K → Bool) (f g : FormalSum K) → strike test (f ++ g) ≡ strike test f ++ strike test g
strike-append test [] g = refl
strike-append test (t ∷ f) g =
    elim (test t.0) as (λ b. cond b (strike test (f ++ g)) (t ∷ strike test (f ++ g)) ≡ cond b (strike test f) (t ∷ strike test f) ++ strike test g) [
      | true ↦ strike-append test f g
      | false ↦ ap (λ rest. t ∷ rest) (strike-append test f g)
    ]

module _ {K L : Type 0} (move : K → L) (test : K → Bool) where
  more : (f : FormalSum K) (i : ℕ) (t : K × ℕ) → i < length f → t ≡ get_or f i t
      → map_keys move (strike test (take (i + 1) f)) ≡ map_keys move (strike test (take i f)) ++ map_keys move (cond (test t.0) [] (t ∷ []))
  more f i t within is =
      ap (λ g. map_keys move (strike test g)) (take_more f i t within ∙ ap (λ (u : K × ℕ). take i f ++ u ∷ []) (sym is))
      ∙ ap (map_keys move) (strike-append test (take i f) (t ∷ []))
      ∙ map-append (λ (u : K × ℕ). (move u.0, u.1)) (strike test (take i f)) (cond (test t.0) [] (t ∷ []))

  pub term_kept : (f : FormalSum K) (i : ℕ) (t : K × ℕ) (key : L) (old items new : FormalSum L) → i < length f → t ≡ get_or f i t → test t.0 ≡ false → key ≡ move t.0
      → new ≡ items ++ (key, t.1) ∷ [] → items ≡ old ++ map_keys move (strike test (take i f)) → new ≡ old ++ map_keys move (strike test (take (i + 1) f))
  term_kept f i t key old items new within is fails moved pushed h =
      let before : FormalSum L = map_keys move (strike test (take i f)) in
      pushed ∙ ap (λ (xs : FormalSum L). xs ++ (key, t.1) ∷ []) h ∙ append_assoc old before ((key, t.1) ∷ [])
      ∙ ap (λ (k : L). old ++ (before ++ (k, t.1) ∷ [])) moved
      ∙ ap (λ (xs : FormalSum L). old ++ xs) (sym (more f i t within is ∙ ap (λ b. before ++ map_keys move (cond b [] (t ∷ []))) fails))

  pub term_struck : (f : FormalSum K) (i : ℕ) (t : K × ℕ) (old items new : FormalSum L) → i < length f → t ≡ get_or f i t → test t.0 ≡ true
      → new ≡ items → items ≡ old ++ map_keys move (strike test (take i f)) → new ≡ old ++ map_keys move (strike test (take (i + 1) f))
  term_struck f i t old items new within is passes same h =
      let before : FormalSum L = map_keys move (strike test (take i f)) in
      same ∙ h ∙ ap (λ (xs : FormalSum L). old ++ xs) (sym (more f i t within is ∙ ap (λ b. before ++ map_keys move (cond b [] (t ∷ []))) passes ∙ append-nil before))

-- Who holds a sector after a take and after it is let go.
use Rattle.std.proofs.Common.{◌≡◌, ◌≢◌, ◌⊎◌, ℕ, Bool, true, false, not, cond, List, [], ◌∷◌, ◌++◌, refl, sym, ◌∙◌, ap, inl, inr}
use Rattle.std.specs.Prelude.{Option, None, Some, ◌==◌}
use Rattle.std.proofs.lemmas.Bool.{eqb-true, eq-eqb}
use Rattle.relay_core.specs.declared.event.Holding.{Holding}
use Rattle.relay_core.specs.Relay.{holder_of, without}

-- whoever holds a sector after a take held it before, or took it
pub holder_after_take : (sector : ℕ) (held : List Holding) (h : Holding) (worker : ℕ) → holder_of sector (held ++ h ∷ []) ≡ Some worker → (holder_of sector held ≡ Some worker) ⊎ ((h.sector.0 ≡ sector) × (holder_of sector held ≡ None))
holder_after_take sector [] h worker e =
    elim (h.sector.0 == sector) as (λ b. (h.sector.0 == sector) ≡ b → cond b (Some h.worker) None ≡ Some worker → (◌≡◌ {A = Option ℕ} None (Some worker)) ⊎ ((h.sector.0 ≡ sector) × (◌≡◌ {A = Option ℕ} None None))) [
      | true ↦ λ same _. inr (eqb-true h.sector.0 sector same, refl)
      | false ↦ λ _ k. absurd (cc)
    ] refl e
holder_after_take sector (g ∷ held) h worker e =
    elim (g.sector.0 == sector) as (λ b. cond b (Some g.worker) (holder_of sector (held ++ h ∷ [])) ≡ Some worker → (cond b (Some g.worker) (holder_of sector held) ≡ Some worker) ⊎ ((h.sector.0 ≡ sector) × (cond b (Some g.worker) (holder_of sector held) ≡ None))) [
      | true ↦ λ k. inl k
      | false ↦ λ k. holder_after_take sector held h worker k
    ] e

-- nobody holds a sector that was let go
pub free_after : (sector : ℕ) (held : List Holding) → holder_of sector (without sector held) ≡ None
free_after sector [] = refl
free_after sector (h ∷ held) =
    elim (h.sector.0 == sector) as (λ b. (h.sector.0 == sector) ≡ b → holder_of sector (cond (not b) (h ∷ without sector held) (without sector held)) ≡ None) [
      | true ↦ λ _. free_after sector held
      | false ↦ λ other. ap (λ b. cond b (Some h.worker) (holder_of sector (without sector held))) other ∙ free_after sector held
    ] refl

-- other sectors stay held as they were
pub others_stay : (sector other : ℕ) (held : List Holding) → other ≢ sector → holder_of other (without sector held) ≡ holder_of other held
others_stay sector other [] ne = refl
others_stay sector other (h ∷ held) ne =
    elim (h.sector.0 == sector) as (λ b. (h.sector.0 == sector) ≡ b → holder_of other (cond (not b) (h ∷ without sector held) (without sector held)) ≡ cond (h.sector.0 == other) (Some h.worker) (holder_of other held)) [
      | true ↦ λ same. others_stay sector other held ne ∙ sym (ap (λ b. cond b (Some h.worker) (holder_of other held)) (is_other h.sector.0 sector other (eqb-true h.sector.0 sector same) ne))
      | false ↦ λ _. ap (λ rest. cond (h.sector.0 == other) (Some h.worker) rest) (others_stay sector other held ne)
    ] refl
  where
    is_other : (a b c : ℕ) → a ≡ b → c ≢ b → (a == c) ≡ false
    is_other a b c same ne = elim (a == c) as (λ t. (a == c) ≡ t → t ≡ false) [ true ↦ λ e. absurd (ne (sym (eqb-true a c e) ∙ same)) | false ↦ λ _. refl ] refl

-- whoever holds a sector after another was let go held it before
pub holder_before : (sector other worker : ℕ) (held : List Holding) → holder_of other (without sector held) ≡ Some worker → (other ≢ sector) × (holder_of other held ≡ Some worker)
holder_before sector other worker held h =
    let ne : other ≢ sector = λ same. let free : holder_of other (without sector held) ≡ None = ap (λ s. holder_of s (without sector held)) same ∙ free_after sector held in absurd (cc) in
    (ne, sym (others_stay sector other held ne) ∙ h)

-- a sector that was just taken is held
pub taken_is_held : (sector : ℕ) (held : List Holding) (h : Holding) → h.sector.0 ≡ sector → holder_of sector (held ++ h ∷ []) ≢ None
taken_is_held sector [] h same =
    elim (h.sector.0 == sector) as (λ b. (h.sector.0 == sector) ≡ b → cond b (Some h.worker) None ≢ None) [
      | true ↦ λ _ none. let bad : ◌≡◌ {A = Option ℕ} (Some h.worker) None = none in cc
      | false ↦ λ other _. let bad : ◌≡◌ {A = Bool} false true = sym other ∙ eq-eqb h.sector.0 sector same in absurd (cc)
    ] refl
taken_is_held sector (g ∷ held) h same =
    elim (g.sector.0 == sector) as (λ b. cond b (Some g.worker) (holder_of sector (held ++ h ∷ [])) ≢ None) [
      | true ↦ λ none. let bad : ◌≡◌ {A = Option ℕ} (Some g.worker) None = none in cc
      | false ↦ taken_is_held sector held h same
    ]

-- where something is held, some sector has a holder
pub some_holder : (held : List Holding) → held ≢ [] → (sector : ℕ) × (worker : ℕ) × (holder_of sector held ≡ Some worker)
some_holder [] some = absurd (some refl)
some_holder (h ∷ held) some = (h.sector.0, h.worker, ap (λ b. cond b (Some h.worker) (holder_of h.sector.0 held)) (eq-eqb h.sector.0 h.sector.0 refl))

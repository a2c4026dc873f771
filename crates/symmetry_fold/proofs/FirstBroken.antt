-- A family has at most one first permutation that isn't a symmetry, and none where each is one.
use Rattle.std.proofs.Common.{◌≡◌, ◌⊎◌, ℕ, ◌+◌, ◌-◌, ◌<◌, ◌≤◌, List, [], length, get_or, inl, inr, ap, subst, sym, ◌∙◌, arith}
use Rattle.std.proofs.lemmas.List.{get_or_default}
use Rattle.family.specs.FamilyData.{FamilyData}
use Rattle.symmetry_fold.specs.Symmetries.{AreSymmetries, IsFirstBroken, IsSymmetry, symmetry_at}

pub never_broken : (family : FamilyData) (k : ℕ) → AreSymmetries family → IsFirstBroken family k → ⊥
never_broken family k all first = first.broken (all (k - 1) [] (omega (arith, first.some, first.listed)))

not_before : (family : FamilyData) (k other : ℕ) → IsFirstBroken family k → IsFirstBroken family other → k < other → ⊥
not_before family k other one also less = one.broken (also.earlier (k - 1) (omega (arith, one.some, less)))

pub one_broken : (family : FamilyData) (k other : ℕ) → IsFirstBroken family k → IsFirstBroken family other → k ≡ other
one_broken family k other one also = elim (apart k other) [
  | inl same ↦ same
  | inr (inl less) ↦ absurd (not_before family k other one also less)
  | inr (inr more) ↦ absurd (not_before family other k also one more)
]
  where
    apart : (a b : ℕ) → (a ≡ b) ⊎ ((a < b) ⊎ (b < a))
    apart a b = grind arith

-- where each of the first so many is a symmetry, and the next one isn't, this one is the first
pub is_first : (family : FamilyData) (k : ℕ) (entry : List ℕ) → k < length family.symmetries → entry ≡ symmetry_at family k → (IsSymmetry family entry → ⊥)
    → ((place : ℕ) → place < k → IsSymmetry family (symmetry_at family place)) → IsFirstBroken family (k + 1)
is_first family k entry listed is broken earlier = record {
  some = omega arith;
  listed = omega (arith, listed);
  broken = λ symmetric. broken (subst (IsSymmetry family) (sym is) (subst (λ place. IsSymmetry family (symmetry_at family place)) (let e : k + 1 - 1 ≡ k = omega arith in e) symmetric));
  earlier = λ place before. earlier place (omega (arith, before));
}

-- one symmetry more
pub one_more : (family : FamilyData) (k : ℕ) (entry : List ℕ) → entry ≡ symmetry_at family k → IsSymmetry family entry → ((place : ℕ) → place < k → IsSymmetry family (symmetry_at family place))
    → (place : ℕ) → place < k + 1 → IsSymmetry family (symmetry_at family place)
one_more family k entry is symmetric earlier place before = elim (last_or_earlier place k before) [
  | inl less ↦ earlier place less
  | inr same ↦ subst (λ place. IsSymmetry family (symmetry_at family place)) (sym same) (subst (IsSymmetry family) is symmetric)
]
  where
    last_or_earlier : (a b : ℕ) → a < b + 1 → (a < b) ⊎ (a ≡ b)
    last_or_earlier a b h = grind (arith, h)

-- all of them are symmetries
pub all_symmetric : (family : FamilyData) (k : ℕ) → length family.symmetries ≤ k → ((place : ℕ) → place < k → IsSymmetry family (symmetry_at family place)) → AreSymmetries family
all_symmetric family k most earlier place d inside = subst (IsSymmetry family) (get_or_default family.symmetries place [] d inside) (earlier place (omega (arith, inside, most)))

-- the entry that stands at a place
pub entry_at : (family : FamilyData) (items : List (List ℕ)) (k : ℕ) (item entry : List ℕ) → items ≡ family.symmetries → k < length items → item ≡ get_or items k item → entry ≡ item → entry ≡ symmetry_at family k
entry_at family items k item entry same inside is own = own ∙ is ∙ get_or_default items k item [] inside ∙ ap (λ es. get_or es k []) same

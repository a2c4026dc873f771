-- The powers of an image are in range where those of the integral are.
use Rattle.std.proofs.Common.{◌≡◌, ℕ, zero, suc, ◌+◌, List, [], ◌∷◌, ◌++◌, length, refl, ap, ◌∙◌, append_assoc, arith}
use Rattle.std.specs.Int.Signed.{le_z_yes}
use Rattle.std.specs.Prelude.{ℤ, neg_ℤ, ◌≤ℤ◌, map}
use Rattle.std.specs.List.{All, AllByRecursion}
use Rattle.std.proofs.lemmas.List.{length-map}
use Rattle.std.proofs.lemmas.List.Elements.{All-head, All-tail}
use Rattle.ibp_algebra.specs.Laurent.{power_at}
use Rattle.ibp_base.proofs.Members.{All-each}
use Rattle.sector_lattice.specs.declared.integral.TheConstants.{POWER}
use Rattle.sector_lattice.specs.Ranges.{AreSmall, InRange}
use Rattle.family.specs.Permutation.{numbers_from, identity}
use Rattle.symmetry_fold.specs.Images.{power_before, place_of, image}

pub numbers_from-length : (i n : ℕ) → length (numbers_from i n) ≡ n
numbers_from-length i zero = refl
numbers_from-length i (suc n) = ap suc (numbers_from-length (i + 1) n)

abbrev IsSmall : ℤ → Type 0
IsSmall power = (neg_ℤ POWER ≤ℤ power) × (power ≤ℤ POWER)

small_at : (powers : List ℤ) → AreSmall powers → (k : ℕ) → IsSmall (power_at powers k)
small_at [] small k = (le_z_yes tt, le_z_yes tt)
small_at (p ∷ powers) small zero = All-head IsSmall p powers small
small_at (p ∷ powers) small (suc k) = small_at powers (All-tail IsSmall p powers small) k

each_small : (sigma : List ℕ) (powers : List ℤ) → AreSmall powers → (js : List ℕ) → AllByRecursion IsSmall (map (power_before sigma powers) js)
each_small sigma powers small [] = tt
each_small sigma powers small (j ∷ js) = (small_at powers small (place_of sigma j), each_small sigma powers small js)

pub image-length : (sigma : List ℕ) (powers : List ℤ) → length (image sigma powers) ≡ length powers
image-length sigma powers = length-map (identity (length powers)) (power_before sigma powers) ∙ numbers_from-length 1 (length powers)

pub image_in_range : (sigma : List ℕ) (powers : List ℤ) → InRange powers → InRange (image sigma powers)
image_in_range sigma powers h = record {
  some = omega (arith, image-length sigma powers, h.some);
  few = omega (arith, image-length sigma powers, h.few);
  small = All-each IsSmall (image sigma powers) (each_small sigma powers h.small (identity (length powers)));
}

-- what is put behind nothing for each variable is the image
pub made_is : (sigma : List ℕ) (own powers start made : List ℤ) (n : ℕ) → start ≡ [] → made ≡ start ++ map (power_before sigma own) (numbers_from 1 n) → own ≡ powers → n ≡ length powers → made ≡ image sigma powers
made_is sigma own powers start made n none is same many =
    is ∙ ap (λ s. s ++ map (power_before sigma own) (numbers_from 1 n)) none ∙ (λ i. map (power_before sigma (same i)) (numbers_from 1 (many i)))

-- one power more is put at the end, and then the later ones
pub put_next : (f : ℕ → ℤ) (first count rest : ℕ) (old one all : List ℤ) (power : ℤ) → suc rest ≡ count → power ≡ f first → one ≡ old ++ power ∷ [] → all ≡ one ++ map f (numbers_from (first + 1) rest) → all ≡ old ++ map f (numbers_from first count)
put_next f first count rest old one all power more is put later =
    later ∙ ap (λ xs. xs ++ map f (numbers_from (first + 1) rest)) put ∙ append_assoc old (power ∷ []) (map f (numbers_from (first + 1) rest))
    ∙ ap (λ p. old ++ p ∷ map f (numbers_from (first + 1) rest)) is ∙ ap (λ n. old ++ map f (numbers_from first n)) more

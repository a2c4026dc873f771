-- The definitions, computed on a small run: z1 e_0 + e_1, e_0 + e_2 and (z1 + z2 + 1) e_0 - e_3, where component
-- 0 dominates.
use Rattle.std.proofs.Common.{◌≡◌, false, Some, [], ◌∷◌, refl}
use Rattle.mono_order.specs.declared.limits.TheConstants.{RUN_DEGREE}
use Rattle.mono_order.specs.TermOrder.{zero_dominates}
use Rattle.module_vec.specs.ModuleVector.{ModuleVector}
use Rattle.module_vec.specs.Division.{Remainder, OverDegree, divide, s_vector}
use Rattle.pair_queue.specs.declared.order.PairOrder.TheVariants.{Terms, Degrees}
use Rattle.pair_queue.specs.Pairs.{compare_pairs, insert_pairs}
use Rattle.module_basis.specs.PlainRun.{pairs_with, is_dropped, undropped}

g1 : ModuleVector
g1 = ((0, 1 ∷ 0 ∷ []), 1) ∷ ((1, 0 ∷ 0 ∷ []), 1) ∷ []

g2 : ModuleVector
g2 = ((0, 0 ∷ 0 ∷ []), 1) ∷ ((2, 0 ∷ 0 ∷ []), 1) ∷ []

g3 : ModuleVector
g3 = ((0, 1 ∷ 0 ∷ []), 1) ∷ ((0, 0 ∷ 1 ∷ []), 1) ∷ ((0, 0 ∷ 0 ∷ []), 1) ∷ ((3, 0 ∷ 0 ∷ []), 2147483646) ∷ []

-- z1 e_2 - e_1
g4 : ModuleVector
g4 = ((2, 1 ∷ 0 ∷ []), 1) ∷ ((1, 0 ∷ 0 ∷ []), 2147483646) ∷ []

-- z2 e_2 + e_1 + e_2 + e_3
g5 : ModuleVector
g5 = ((2, 0 ∷ 1 ∷ []), 1) ∷ ((1, 0 ∷ 0 ∷ []), 1) ∷ ((2, 0 ∷ 0 ∷ []), 1) ∷ ((3, 0 ∷ 0 ∷ []), 1) ∷ []

-- e_1 - z1 e_2
first_s_vector : s_vector zero_dominates g1 g2 ≡ ((2, 1 ∷ 0 ∷ []), 2147483646) ∷ ((1, 0 ∷ 0 ∷ []), 1) ∷ []
unfolding g1 g2
first_s_vector = refl

-- -z1 e_1 - z2 e_1 - z1 e_2 - z1 e_3
third_s_vector : s_vector zero_dominates g4 g5
    ≡ ((1, 1 ∷ 0 ∷ []), 2147483646) ∷ ((2, 1 ∷ 0 ∷ []), 2147483646) ∷ ((3, 1 ∷ 0 ∷ []), 2147483646) ∷ ((1, 0 ∷ 1 ∷ []), 2147483646) ∷ []
unfolding g4 g5
third_s_vector = refl

-- its remainder is -z1 e_1 - z2 e_1 - z1 e_3 - e_1
third_remainder : divide zero_dominates RUN_DEGREE (g1 ∷ g2 ∷ g3 ∷ g4 ∷ g5 ∷ []) 8 (s_vector zero_dominates g4 g5)
    ≡ Some (Remainder (((1, 1 ∷ 0 ∷ []), 2147483646) ∷ ((3, 1 ∷ 0 ∷ []), 2147483646) ∷ ((1, 0 ∷ 1 ∷ []), 2147483646) ∷ ((1, 0 ∷ 0 ∷ []), 2147483646) ∷ []))
unfolding g1 g2 g3 g4 g5
third_remainder = refl

-- z1^1000 e_0 by z1 e_0 + z2^2 e_1 is over-degree
over : divide zero_dominates RUN_DEGREE ((((0, 1 ∷ 0 ∷ []), 1) ∷ ((1, 0 ∷ 2 ∷ []), 1) ∷ []) ∷ []) 2 (((0, RUN_DEGREE ∷ 0 ∷ []), 1) ∷ []) ≡ Some OverDegree
over = refl

-- the pair of the second and third element comes last, by its second number
first_pairs : insert_pairs (compare_pairs zero_dominates Terms) (pairs_with 3 (0, 1 ∷ 0 ∷ []) 1 (g1 ∷ g2 ∷ [])) (pairs_with 2 (0, 0 ∷ 0 ∷ []) 1 (g1 ∷ []))
    ≡ record { first = 1; second = 2; lcm = (0, 1 ∷ 0 ∷ []) } ∷ record { first = 1; second = 3; lcm = (0, 1 ∷ 0 ∷ []) } ∷ record { first = 2; second = 3; lcm = (0, 1 ∷ 0 ∷ []) } ∷ []
unfolding g1 g2
first_pairs = refl

-- by degrees a pair at component 0 goes before one at component 2 where its degree is less; by terms it is the other way
by_degrees : insert_pairs (compare_pairs zero_dominates (Degrees (0 ∷ 0 ∷ 1 ∷ []))) (record { first = 1; second = 3; lcm = (0, 0 ∷ 2 ∷ []) } ∷ record { first = 2; second = 4; lcm = (2, 1 ∷ 1 ∷ []) } ∷ []) []
    ≡ record { first = 1; second = 3; lcm = (0, 0 ∷ 2 ∷ []) } ∷ record { first = 2; second = 4; lcm = (2, 1 ∷ 1 ∷ []) } ∷ []
by_degrees = refl

-- it is dropped through the first element, and the pair of the fourth and fifth element, which has the next place, is not
next_pairs : undropped (g1 ∷ g2 ∷ g3 ∷ g4 ∷ g5 ∷ [])
    (record { first = 2; second = 3; lcm = (0, 1 ∷ 0 ∷ []) } ∷ record { first = 4; second = 5; lcm = (2, 1 ∷ 1 ∷ []) } ∷ [])
    ≡ record { first = 4; second = 5; lcm = (2, 1 ∷ 1 ∷ []) } ∷ []
unfolding g1 g2 g3 g4 g5
next_pairs = refl

-- while the pair of the first and third element is left, it is not
kept_pair : is_dropped 1 (g1 ∷ g2 ∷ g3 ∷ []) (record { first = 1; second = 3; lcm = (0, 1 ∷ 0 ∷ []) } ∷ []) (record { first = 2; second = 3; lcm = (0, 1 ∷ 0 ∷ []) }) ≡ false
unfolding g1 g2 g3
kept_pair = refl

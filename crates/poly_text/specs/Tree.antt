-- The grammar of polynomial texts, over tokens with their places, and the trees that it gives to them.
--     sum     = [ "+" | "-" ] product { ( "+" | "-" ) product }
--     product = factor { ( "*" | "/" ) factor }
--     factor  = primary [ "^" whole ]
--     primary = whole | name | "(" sum ")"
-- A sign in front of a sum belongs to its first product. `IsSum ts t rest` says that the tokens ts begin
-- with a sum whose tree is t, and that rest is what follows it, and so for the others.
use Rattle.std.specs.Prelude.{ℕ, List, [], ◌∷◌}
use Rattle.poly_text.specs.Token.{Token}

-- an operator with its place, and a name with its own
pub data Tree : Type 0 where
  whole : ℕ → Tree
  name : List ℕ → ℕ → Tree
  negative : Tree → Tree
  plus : Tree → ℕ → Tree → Tree
  minus : Tree → ℕ → Tree → Tree
  times : Tree → ℕ → Tree → Tree
  over : Tree → ℕ → Tree → Tree
  power : Tree → ℕ → ℕ → Tree

mutual
  pub data IsSum : List (Token × ℕ) → Tree → List (Token × ℕ) → Type 0 where
    first : {ts rest : List (Token × ℕ)} {t : Tree} → IsProduct ts t rest → IsSum ts t rest
    signed : {ts rest : List (Token × ℕ)} {t : Tree} {p : ℕ} → IsProduct ts t rest → IsSum ((Token.plus, p) ∷ ts) t rest
    negated : {ts rest : List (Token × ℕ)} {t : Tree} {p : ℕ} → IsProduct ts t rest → IsSum ((Token.minus, p) ∷ ts) (Tree.negative t) rest
    added : {ts us rest : List (Token × ℕ)} {t u : Tree} {p : ℕ} → IsSum ts t ((Token.plus, p) ∷ us) → IsProduct us u rest → IsSum ts (Tree.plus t p u) rest
    taken : {ts us rest : List (Token × ℕ)} {t u : Tree} {p : ℕ} → IsSum ts t ((Token.minus, p) ∷ us) → IsProduct us u rest → IsSum ts (Tree.minus t p u) rest

  pub data IsProduct : List (Token × ℕ) → Tree → List (Token × ℕ) → Type 0 where
    single : {ts rest : List (Token × ℕ)} {t : Tree} → IsFactor ts t rest → IsProduct ts t rest
    multiplied : {ts us rest : List (Token × ℕ)} {t u : Tree} {p : ℕ} → IsProduct ts t ((Token.times, p) ∷ us) → IsFactor us u rest → IsProduct ts (Tree.times t p u) rest
    divided : {ts us rest : List (Token × ℕ)} {t u : Tree} {p : ℕ} → IsProduct ts t ((Token.over, p) ∷ us) → IsFactor us u rest → IsProduct ts (Tree.over t p u) rest

  pub data IsFactor : List (Token × ℕ) → Tree → List (Token × ℕ) → Type 0 where
    plain : {ts rest : List (Token × ℕ)} {t : Tree} → IsPrimary ts t rest → IsFactor ts t rest
    raised : {ts rest : List (Token × ℕ)} {t : Tree} {p k q : ℕ} → IsPrimary ts t ((Token.power, p) ∷ (Token.whole k, q) ∷ rest) → IsFactor ts (Tree.power t p k) rest

  pub data IsPrimary : List (Token × ℕ) → Tree → List (Token × ℕ) → Type 0 where
    number : {rest : List (Token × ℕ)} {k p : ℕ} → IsPrimary ((Token.whole k, p) ∷ rest) (Tree.whole k) rest
    named : {rest : List (Token × ℕ)} {word : List ℕ} {p : ℕ} → IsPrimary ((Token.name word, p) ∷ rest) (Tree.name word p) rest
    group : {ts rest : List (Token × ℕ)} {t : Tree} {p q : ℕ} → IsSum ts t ((Token.closing, q) ∷ rest) → IsPrimary ((Token.opening, p) ∷ ts) t rest

-- these tokens, all of them, are a text of the grammar with this tree
abbrev pub IsText : List (Token × ℕ) → Tree → Type 0
IsText ts t = IsSum ts t []

-- Tokens and their places in a list, and that a list has one first fault.
use Rattle.std.proofs.Common.{◌≡◌, ℕ, List, [], ◌∷◌, ◌++◌, length, Bool, refl, sym, ap, ◌∙◌, ◌⊎◌, inl, inr, arith, length-append}
use Rattle.poly_text.specs.declared.fault.TextFault.{TextFault}
use Rattle.poly_text.specs.Token.{Token}
use Rattle.poly_text.specs.Tree.{Tree, IsText}
use Rattle.poly_text.specs.Faults.{IsTokenFault, HasNoTokenFault, IsFirstFault}
use Rattle.poly_text.proofs.Accepting.{Tokens}

-- this token stands in the list behind this front
abbrev StandsIn : Tokens → Token × ℕ → Tokens → Type 0
StandsIn front token ts = (back : Tokens) × (ts ≡ front ++ token ∷ back)

abbrev SamePlace : Tokens → Token × ℕ → Tokens → Token × ℕ → Type 0
SamePlace a x b y = (a ≡ b) × (x ≡ y)

-- two places in one list are the same, or one token stands in front of the other
abbrev TwoPlaces : Tokens → Token × ℕ → Tokens → Token × ℕ → Type 0
TwoPlaces a x b y = (SamePlace a x b y) ⊎ ((StandsIn a x b) ⊎ (StandsIn b y a))

first_same : (x y : Token × ℕ) (a b : Tokens) → x ∷ a ≡ y ∷ b → x ≡ y
first_same x y a b e = cc

others_same : (x y : Token × ℕ) (a b : Tokens) → x ∷ a ≡ y ∷ b → a ≡ b
others_same x y a b e = cc

one_further : (z w x y : Token × ℕ) (a b : Tokens) → z ≡ w → TwoPlaces a x b y → TwoPlaces (z ∷ a) x (w ∷ b) y
one_further z w x y a b same (inl h) = let e = h.0 in inl (cc, h.1)
one_further z w x y a b same (inr (inl h)) = let e = h.1 in inr (inl (h.0, cc))
one_further z w x y a b same (inr (inr h)) = let e = h.1 in inr (inr (h.0, cc))

two_places : (a b : Tokens) (x y : Token × ℕ) (c d : Tokens) → a ++ x ∷ c ≡ b ++ y ∷ d → TwoPlaces a x b y
two_places [] [] x y c d e = inl (refl, first_same x y c d e)
two_places [] (w ∷ b) x y c d e = inr (inl (b, ap (λ z. z ∷ b) (sym (first_same x w c (b ++ y ∷ d) e))))
two_places (z ∷ a) [] x y c d e = inr (inr (a, ap (λ w. w ∷ a) (first_same z y (a ++ x ∷ c) d e)))
two_places (z ∷ a) (w ∷ b) x y c d e =
    one_further z w x y a b (first_same z w _ _ e) (two_places a b x y c d (others_same z w _ _ e))

too_long : (front others : Tokens) (x y : Token × ℕ) (back : Tokens) → front ++ x ∷ [] ≡ (front ++ x ∷ others) ++ y ∷ back → ⊥
too_long front others x y back e = absurd (omega (arith, simp length-append at (ap length e)))

-- a place in a list with one more token at its end is that token's or one before
abbrev PlaceUpTo : Tokens → Token × ℕ → Tokens → Token × ℕ → Type 0
PlaceUpTo a x b y = (SamePlace a x b y) ⊎ (StandsIn b y a)

place_up_to : (a b : Tokens) (x y : Token × ℕ) (back : Tokens) → a ++ x ∷ [] ≡ b ++ y ∷ back → PlaceUpTo a x b y
place_up_to a b x y back e = from (two_places a b x y [] back e)
  where
    from : TwoPlaces a x b y → PlaceUpTo a x b y
    from (inl h) = inl h
    from (inr (inl h)) = absurd (too_long a h.0 x y back (e ∙ ap (λ (l : Tokens). l ++ y ∷ back) h.1))
    from (inr (inr h)) = inr h

pub last_same : (a b : Tokens) (x y : Token × ℕ) → a ++ x ∷ [] ≡ b ++ y ∷ [] → x ≡ y
last_same a b x y e = from (two_places a b x y [] [] e)
  where
    from : TwoPlaces a x b y → x ≡ y
    from (inl h) = h.1
    from (inr (inl h)) = absurd (too_long a h.0 x y [] (e ∙ ap (λ (l : Tokens). l ++ y ∷ []) h.1))
    from (inr (inr h)) = absurd (too_long b h.0 y x [] (sym e ∙ ap (λ (l : Tokens). l ++ x ∷ []) h.1))

module _ (known : List ℕ → Bool) where
  pub none_in_nothing : HasNoTokenFault known []
  none_in_nothing [] token back fault e h = absurd (cc)
  none_in_nothing (x ∷ front) token back fault e h = absurd (cc)

  pub none_in_one_more : (front : Tokens) (token : Token × ℕ) → HasNoTokenFault known front → ((fault : TextFault) → ¬ IsTokenFault known front token fault)
      → HasNoTokenFault known (front ++ token ∷ [])
  none_in_one_more front token none here before other back fault e h = from (place_up_to front before token other back e)
    where
      from : PlaceUpTo front token before other → ⊥
      from (inl s) = here fault (rw (s.0, s.1) h)
      from (inr s) = none before other s.0 fault s.1 h

  -- a token has one fault
  token_fault_unique : {front : Tokens} {token : Token × ℕ} {f g : TextFault} → IsTokenFault known front token f → IsTokenFault known front token g → f ≡ g
  token_fault_unique (IsTokenFault.syntax n) (IsTokenFault.syntax m) = refl
  token_fault_unique (IsTokenFault.syntax n) (IsTokenFault.unknown_name a h) = absurd (n a)
  token_fault_unique (IsTokenFault.syntax n) (IsTokenFault.number_over a h k) = absurd (n a)
  token_fault_unique (IsTokenFault.syntax n) (IsTokenFault.power_over a h k) = absurd (n a)
  token_fault_unique (IsTokenFault.syntax n) (IsTokenFault.depth_over a h) = absurd (n a)
  token_fault_unique (IsTokenFault.unknown_name a h) (IsTokenFault.syntax m) = absurd (m a)
  token_fault_unique (IsTokenFault.unknown_name a h) (IsTokenFault.unknown_name b k) = refl
  token_fault_unique (IsTokenFault.number_over a h k) (IsTokenFault.syntax m) = absurd (m a)
  token_fault_unique (IsTokenFault.number_over a h k) (IsTokenFault.number_over b i j) = refl
  token_fault_unique (IsTokenFault.number_over a h k) (IsTokenFault.power_over b i j) = absurd (h i)
  token_fault_unique (IsTokenFault.power_over a h k) (IsTokenFault.syntax m) = absurd (m a)
  token_fault_unique (IsTokenFault.power_over a h k) (IsTokenFault.number_over b i j) = absurd (i h)
  token_fault_unique (IsTokenFault.power_over a h k) (IsTokenFault.power_over b i j) = refl
  token_fault_unique (IsTokenFault.depth_over a h) (IsTokenFault.syntax m) = absurd (m a)
  token_fault_unique (IsTokenFault.depth_over a h) (IsTokenFault.depth_over b k) = refl

  -- a list has one first fault
  same_fault : (a b : Tokens) (x y : Token × ℕ) (f g : TextFault) → HasNoTokenFault known a → HasNoTokenFault known b → IsTokenFault known a x f → IsTokenFault known b y g → TwoPlaces a x b y → f ≡ g
  same_fault a b x y f g none_a none_b h k (inl s) = token_fault_unique (rw (← s.0, ← s.1) h) k
  same_fault a b x y f g none_a none_b h k (inr (inl s)) = absurd (none_b a x s.0 f s.1 h)
  same_fault a b x y f g none_a none_b h k (inr (inr s)) = absurd (none_a b y s.0 g s.1 k)

  pub first_fault_unique : (end : ℕ) (ts : Tokens) (f g : TextFault) → IsFirstFault known end ts f → IsFirstFault known end ts g → f ≡ g
  first_fault_unique end ts f g (inl h) (inl k) =
      same_fault h.0 k.0 h.1 k.1 f g h.4 k.4 h.5 k.5 (two_places h.0 k.0 h.1 k.1 h.2 k.2 (sym h.3 ∙ k.3))
  first_fault_unique end ts f g (inl h) (inr k) = absurd (k.1 h.0 h.1 h.2 f h.3 h.5)
  first_fault_unique end ts f g (inr h) (inl k) = absurd (h.1 k.0 k.1 k.2 g k.3 k.5)
  first_fault_unique end ts f g (inr h) (inr k) = h.0 ∙ sym k.0

  -- and none where it is a text without faults
  pub no_first_fault : (end : ℕ) (ts : Tokens) (t : Tree) (f : TextFault) → IsText ts t → HasNoTokenFault known ts → ¬ IsFirstFault known end ts f
  no_first_fault end ts t f text none (inl h) = none h.0 h.1 h.2 f h.3 h.5
  no_first_fault end ts t f text none (inr h) = h.2 t text

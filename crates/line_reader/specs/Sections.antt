-- Sections of a text: the lines of a value, for each value of a kind.
--     Begins text IsValue ls k      the first k of these lines are there, and the lines of some value begin with them
--     StopsAt text IsValue ls k     no value's lines stand in front of these, and the first k begin some, and one more don't
--     IsOnly text IsValue a         no other value has its lines in front of lines that begin with those of a
--     Answers text IsValue ..       a reader's answer: the value whose lines stand in front, or the first bad line
-- Source: viable prefixes of a language, as in the theory of parsing; the sections are our own.
use Rattle.std.specs.Prelude.{◌≡◌, ◌≢◌, ℕ, suc, ◌+◌, ◌≤◌, Result, Ok, Err, Option, Some, None, List, [], ◌∷◌, ◌++◌, length, take}
use Rattle.std.specs.List.{AllByRecursion}
use Rattle.line_reader.specs.declared.fault.ReadSystemFault.{ReadSystemFault}

abbrev pub Line : Type 0
Line = List ℕ

pub record Begins {A : Type 0} (text : A → List Line) (IsValue : A → Type 0) (ls : List Line) (k : ℕ) : Type 0 where
  pub there : k ≤ length ls
  pub value : A
  pub is_value : IsValue value
  pub more : List Line
  pub begins : text value ≡ take k ls ++ more

pub record StopsAt {A : Type 0} (text : A → List Line) (IsValue : A → Type 0) (ls : List Line) (k : ℕ) : Type 0 where
  pub none : (a : A) (rest : List Line) → IsValue a → ls ≢ text a ++ rest
  pub before : Begins text IsValue ls k
  pub bad : ¬ Begins text IsValue ls (suc k)

abbrev pub IsOnly : {A : Type 0} → (A → List Line) → (A → Type 0) → A → Type 0
IsOnly {A} text IsValue a = (b : A) (x y : List Line) → IsValue b → text a ++ x ≡ text b ++ y → (b ≡ a) × (x ≡ y)

-- the value of which the bytes are the text, and no other one, or none
abbrev pub Reads : {A : Type 0} → (A → List ℕ) → (A → Type 0) → List ℕ → Option A → Type 0
Reads {A} text IsValue bytes (Some a) = IsValue a × (bytes ≡ text a) × ((b : A) → IsValue b → bytes ≡ text b → b ≡ a)
Reads {A} text IsValue bytes None = (a : A) → IsValue a → bytes ≢ text a

-- the answer of a reader that had taken so many lines before these
abbrev pub Fails : {A : Type 0} → (A → List Line) → (A → Type 0) → List Line → ℕ → ReadSystemFault → Type 0
Fails text IsValue ls taken (ReadSystemFault.BadLine k) = (j : ℕ) × (k ≡ suc (taken + j)) × StopsAt text IsValue ls j
Fails text IsValue ls taken ReadSystemFault.NoMemory = Unit {0}

pub record Found {A : Type 0} (text : A → List Line) (IsValue : A → Type 0) (ls : List Line) (taken : ℕ) (rest : List Line) (now : ℕ) (a : A) : Type 0 where
  pub is_value : IsValue a
  pub front : ls ≡ text a ++ rest
  pub count : now ≡ taken + length (text a)
  pub only : IsOnly text IsValue a

abbrev pub Answers : {A : Type 0} → (A → List Line) → (A → Type 0) → List Line → ℕ → List Line → ℕ → Result A ReadSystemFault → Type 0
Answers text IsValue ls taken rest now (Ok a) = Found text IsValue ls taken rest now a
Answers text IsValue ls taken rest now (Err fault) = Fails text IsValue ls taken fault

-- a section of one line
abbrev pub one_line : {A : Type 0} → (A → Line) → A → List Line
one_line text a = text a ∷ []

-- one section behind the other
abbrev pub both : {A B : Type 0} → (A → List Line) → (A → B → List Line) → A × B → List Line
both first second pair = first pair.0 ++ second pair.0 pair.1

abbrev pub AreBoth : {A B : Type 0} → (A → Type 0) → (A → B → Type 0) → A × B → Type 0
AreBoth IsFirst IsSecond pair = IsFirst pair.0 × IsSecond pair.0 pair.1

-- sections that are numbered from k on
abbrev pub each_from : {A : Type 0} → (ℕ → A → List Line) → ℕ → List A → List Line
each_from text k [] = []
each_from text k (x ∷ xs) = text k x ++ each_from text (suc k) xs

abbrev pub AreMany : {A : Type 0} → (A → Type 0) → ℕ → List A → Type 0
AreMany IsValue count xs = (length xs ≡ count) × AllByRecursion IsValue xs

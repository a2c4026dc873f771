-- The first line of some bytes with which no text goes on.
--     BeginsSystem n bytes k    the first k lines are there, and the text of some system value for n begins with them
--     IsBadLine n bytes k       the bytes are the text of no system value for n, and the first k - 1 lines begin the
--                               text of one, and the first k lines don't
-- A line has its byte 10, which the last one may lack. Where the bytes end early, k is one more than their lines.
-- Source: viable prefixes, as in the theory of parsing; the formats are our own.
use Rattle.std.specs.Prelude.{◌≡◌, ◌≢◌, ℕ, suc, ◌≤◌, List, ◌++◌, length, take}
use Rattle.line_reader.specs.Lines.{lines}
use Rattle.system_text.specs.declared.value.System.{System}
use Rattle.system_text.specs.Systems.{system_text}
use Rattle.system_text.specs.SystemValues.{IsSystemValue}

pub record BeginsSystem (n : ℕ) (bytes : List ℕ) (k : ℕ) : Type 0 where
  pub there : k ≤ length (lines bytes)
  pub system : System
  pub value : IsSystemValue n system
  pub more : List (List ℕ)
  pub begins : lines (system_text system) ≡ take k (lines bytes) ++ more

-- j is the number of the lines before the bad one
pub record IsBadLine (n : ℕ) (bytes : List ℕ) (k : ℕ) : Type 0 where
  pub none : (system : System) → IsSystemValue n system → bytes ≢ system_text system
  pub j : ℕ
  pub next : k ≡ suc j
  pub before : BeginsSystem n bytes j
  pub bad : ¬ BeginsSystem n bytes k

-- What the lines of bytes say of the bytes.
use Rattle.std.proofs.Common.{◌≡◌, ◌≢◌, ℕ, suc, ◌+◌, ◌≤◌, List, [], ◌∷◌, ◌++◌, length, take, Bool, true, false, cond, refl, sym, ap, ◌∙◌, append_assoc, append-nil, subst, arith, length-append}
use Rattle.std.specs.Prelude.{◌==◌}
use Rattle.std.specs.List.{flat_map}
use Rattle.std.proofs.lemmas.List.{take_at}
use Rattle.std.proofs.Math.Seq.{take-append-add}
use Rattle.line_reader.specs.Lines.{lines, onto_first}
use Rattle.line_reader.specs.Sections.{Line, Fails, Found}
use Rattle.line_reader.specs.declared.fault.ReadSystemFault.{ReadSystemFault}
use Rattle.system_text.specs.Systems.{system_text}
use Rattle.system_text.specs.SystemValues.{IsSystemValue}
use Rattle.system_text.specs.SystemLines.{system_lines}
use Rattle.system_text.specs.BadLines.{BeginsSystem, IsBadLine}
use Rattle.system_text.specs.declared.value.System.{System}
use Rattle.system_text.proofs.TextLines.{lines_of_system}

abbrev all : List Line → List ℕ
all ls = flat_map (λ (l : Line). l) ls

all_onto : (b : ℕ) (ls : List Line) → all (onto_first b ls) ≡ b ∷ all ls
all_onto b [] = refl
all_onto b (l ∷ ls) = refl

all_lines : (bytes : List ℕ) → all (lines bytes) ≡ bytes
unfolding lines
all_lines [] = refl
all_lines (b ∷ bytes) = by (b == 10) (all_lines bytes)
  where
    by : (here : Bool) → all (lines bytes) ≡ bytes → all (cond here ((b ∷ []) ∷ lines bytes) (onto_first b (lines bytes))) ≡ b ∷ bytes
    by true others = ap (λ (t : List ℕ). b ∷ t) others
    by false others = all_onto b (lines bytes) ∙ ap (λ (t : List ℕ). b ∷ t) others

same_lines : (a b : List ℕ) → lines a ≡ lines b → a ≡ b
same_lines a b e = sym (all_lines a) ∙ ap all e ∙ all_lines b

no_lines : (bytes : List ℕ) → lines bytes ≡ [] → bytes ≡ []
no_lines bytes e = sym (all_lines bytes) ∙ ap all e

lines_none : (bytes : List ℕ) → bytes ≡ [] → lines bytes ≡ []
unfolding lines
lines_none bytes e = ap lines e

module _ (n : ℕ) (low : n ≤ 12) (bytes : List ℕ) where
  the_lines : (s : System) → IsSystemValue n s → bytes ≡ system_text s → lines bytes ≡ system_lines s
  the_lines s is e = ap lines e ∙ lines_of_system n s low is

  pub read_text : (rest : List ℕ) (now : ℕ) (s : System) → Found system_lines (IsSystemValue n) (lines bytes) 0 (lines rest) now s → rest ≡ [] → bytes ≡ system_text s
  read_text rest now s found none =
      same_lines bytes (system_text s)
      (found.front ∙ ap (λ (t : List Line). system_lines s ++ t) (lines_none rest none) ∙ append-nil (system_lines s) ∙ sym (lines_of_system n s low found.is_value))

  pub read_one : (rest : List ℕ) (now : ℕ) (s : System) → Found system_lines (IsSystemValue n) (lines bytes) 0 (lines rest) now s
      → (other : System) → IsSystemValue n other → bytes ≡ system_text other → (other ≡ s) × (lines rest ≡ [])
  read_one rest now s found other is e = found.only other (lines rest) [] is (sym found.front ∙ the_lines other is e ∙ sym (append-nil (system_lines other)))

  pub bad_fails : (k : ℕ) → Fails system_lines (IsSystemValue n) (lines bytes) 0 (ReadSystemFault.BadLine k) → IsBadLine n bytes k
  bad_fails k (j, at, stops) =
      record {
        none = λ s is e. stops.none s [] is (the_lines s is e ∙ sym (append-nil (system_lines s)));
        j = j;
        next = omega (arith, at);
        before =
            record {
              there = stops.before.there;
              system = stops.before.value;
              value = stops.before.is_value;
              more = stops.before.more;
              begins = lines_of_system n stops.before.value low stops.before.is_value ∙ stops.before.begins;
            };
        bad = λ front. no_more (subst (λ i. BeginsSystem n bytes i) next front);
      }
    where
      next : k ≡ suc j
      next = omega (arith, at)

      no_more : ¬ BeginsSystem n bytes (suc j)
      no_more front =
          stops.bad (record {
            there = front.there;
            value = front.system;
            is_value = front.value;
            more = front.more;
            begins = sym (lines_of_system n front.system low front.value) ∙ front.begins;
          })

  pub bad_rest : (rest : List ℕ) (now k : ℕ) (s : System) → Found system_lines (IsSystemValue n) (lines bytes) 0 (lines rest) now s → rest ≢ [] → k ≡ now + 1 → IsBadLine n bytes k
  bad_rest rest now k s found more at =
      record {
        none = λ other is e. more (no_lines rest (read_one rest now s found other is e).1);
        j = length (system_lines s);
        next = omega (arith, at, found.count);
        before =
            record {
              there = omega (arith, ap length found.front, length-append (system_lines s) (lines rest));
              system = s;
              value = found.is_value;
              more = [];
              begins = lines_of_system n s low found.is_value ∙ sym (append-nil (system_lines s))
                  ∙ ap (λ (t : List Line). t ++ []) (sym (ap (take (length (system_lines s))) found.front ∙ take_at (system_lines s) (lines rest) (length (system_lines s)) refl));
            };
        bad = λ front. no_more (subst (λ i. BeginsSystem n bytes i) next front);
      }
    where
      next : k ≡ length (system_lines s) + 1
      next = omega (arith, at, found.count)

      some_more : (ls others : List Line) → ls ≢ [] → take 1 ls ++ others ≢ []
      some_more [] others some e = some refl
      some_more (l ∷ ls) others some e = absurd (cc)

      no_more : ¬ BeginsSystem n bytes (length (system_lines s) + 1)
      no_more front =
          some_more (lines rest) front.more (λ none. more (no_lines rest none))
          (found.only front.system (take 1 (lines rest) ++ front.more) [] front.value
          (sym (append_assoc (system_lines s) (take 1 (lines rest)) front.more)
          ∙ ap (λ (t : List Line). t ++ front.more) (sym (ap (take (length (system_lines s) + 1)) found.front ∙ take-append-add (system_lines s) (lines rest) 1))
          ∙ sym front.begins ∙ lines_of_system n front.system low front.value ∙ sym (append-nil (system_lines front.system)))).1

pub found_in : (n : ℕ) (bytes start : List ℕ) (taken : ℕ) (rest : List Line) (now : ℕ) (s : System) → start ≡ bytes → taken ≡ 0
    → Found system_lines (IsSystemValue n) (lines start) taken rest now s → Found system_lines (IsSystemValue n) (lines bytes) 0 rest now s
found_in n bytes start taken rest now s e none found =
    subst (λ (t : ℕ). Found system_lines (IsSystemValue n) (lines bytes) t rest now s) none
    (subst (λ (b : List ℕ). Found system_lines (IsSystemValue n) (lines b) taken rest now s) e found)

pub fails_in : (n : ℕ) (bytes start : List ℕ) (taken : ℕ) (fault other : ReadSystemFault) → start ≡ bytes → taken ≡ 0 → fault ≡ other
    → Fails system_lines (IsSystemValue n) (lines start) taken fault → Fails system_lines (IsSystemValue n) (lines bytes) 0 other
fails_in n bytes start taken fault other e none same fails =
    subst (λ (f : ReadSystemFault). Fails system_lines (IsSystemValue n) (lines bytes) 0 f) same
    (subst (λ (t : ℕ). Fails system_lines (IsSystemValue n) (lines bytes) t fault) none
    (subst (λ (b : List ℕ). Fails system_lines (IsSystemValue n) (lines b) taken fault) e fails))

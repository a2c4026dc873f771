-- Loops that read numbered sections.
use Rattle.std.proofs.Common.{◌≡◌, ℕ, ◌+◌, ◌<◌, List, [], ◌∷◌, ◌++◌, length, refl, sym, ap, ◌∙◌, append_assoc, append-nil, subst, arith, length-append}
use Rattle.std.specs.List.{AllByRecursion}
use Rattle.line_reader.specs.declared.fault.ReadSystemFault.{ReadSystemFault}
use Rattle.line_reader.specs.Sections.{Line, StopsAt, each_from, AreMany, Fails, Found}
use Rattle.line_reader.proofs.Many.{number_after, number_after-is, each_from-append, many_stop, all_append, AllOnly, all_only_append, many_only}

-- what a loop over numbered sections keeps: those that were read stand in front
pub record ReadSoFar {A : Type 0} (text : ℕ → A → List Line) (k : ℕ) (IsValue : A → Type 0) (ls : List Line) (taken : ℕ) (done : List A) (rest : List Line) (now : ℕ) : Type 0 where
  pub each : AllByRecursion IsValue done
  pub front : ls ≡ each_from text k done ++ rest
  pub lines_taken : now ≡ taken + length (each_from text k done)
  pub only : AllOnly text IsValue k done

pub nothing_read : {A : Type 0} (text : ℕ → A → List Line) (k : ℕ) (IsValue : A → Type 0) (ls : List Line) (taken : ℕ) → ReadSoFar text k IsValue ls taken [] ls taken
nothing_read text k IsValue ls taken = record { each = tt; front = refl; lines_taken = omega arith; only = tt }

pub one_more : {A : Type 0} (text : ℕ → A → List Line) (k : ℕ) (IsValue : A → Type 0) (ls : List Line) (taken : ℕ) (done : List A) (rest : List Line) (now : ℕ)
    (i : ℕ) (x : A) (others : List Line) (then : ℕ) → ReadSoFar text k IsValue ls taken done rest now → i ≡ k + length done
    → Found (text i) IsValue rest now others then x → ReadSoFar text k IsValue ls taken (done ++ x ∷ []) others then
one_more text k IsValue ls taken done rest now i x others then so_far i_is found_i =
    let number : i ≡ number_after k done = i_is ∙ sym (number_after-is k done) in
    let found = subst (λ m. Found (text m) IsValue rest now others then x) number found_i in
    let m = number_after k done in
    let whole : each_from text k (done ++ x ∷ []) ≡ each_from text k done ++ text m x
    = each_from-append text k done (x ∷ []) ∙ ap (λ (t : List Line). each_from text k done ++ t) (append-nil (text m x)) in
    record {
      each = all_append IsValue done (x ∷ []) so_far.each (found.is_value, tt);
      front = so_far.front ∙ ap (λ (t : List Line). each_from text k done ++ t) found.front ∙ sym (append_assoc (each_from text k done) (text m x) others)
          ∙ ap (λ (t : List Line). t ++ others) (sym whole);
      lines_taken = omega (arith, so_far.lines_taken, found.count, ap length whole, length-append (each_from text k done) (text m x));
      only = all_only_append text IsValue k done x so_far.only found.only;
    }

pub loop_fails : {A : Type 0} (text : ℕ → A → List Line) (IsValue : A → Type 0) → (some : A) → IsValue some
    → (k count : ℕ) (ls : List Line) (taken : ℕ) (done : List A) (rest : List Line) (now : ℕ) (i : ℕ) (fault : ReadSystemFault)
    → ReadSoFar text k IsValue ls taken done rest now → i ≡ k + length done → length done < count
    → Fails (text i) IsValue rest now fault → Fails (each_from text k) (AreMany IsValue count) ls taken fault
loop_fails text IsValue some is_some k count ls taken done rest now i (ReadSystemFault.BadLine l) so_far i_is few (j, at, stops_i) =
    let number : i ≡ number_after k done = i_is ∙ sym (number_after-is k done) in
    let stops = subst (λ m. StopsAt (text m) IsValue rest j) number stops_i in
    (length (each_from text k done) + j, omega (arith, so_far.lines_taken, at), many_stop text IsValue some is_some k count done so_far.each so_far.only few ls rest j so_far.front stops)
loop_fails text IsValue some is_some k count ls taken done rest now i ReadSystemFault.NoMemory so_far i_is few fails = tt

pub loop_done : {A : Type 0} (text : ℕ → A → List Line) (k : ℕ) (IsValue : A → Type 0) (count : ℕ) (ls : List Line) (taken : ℕ) (done : List A) (rest : List Line) (now : ℕ)
    (xs : List A) → ReadSoFar text k IsValue ls taken done rest now → length done ≡ count → xs ≡ done
    → Found (each_from text k) (AreMany IsValue count) ls taken rest now xs
loop_done {A} text k IsValue count ls taken done rest now xs so_far all same =
    subst (λ (ys : List A). Found (each_from text k) (AreMany IsValue count) ls taken rest now ys) (sym same)
    (record { is_value = (all, so_far.each); front = so_far.front; count = so_far.lines_taken; only = many_only text IsValue k count done all so_far.only })

-- What the answer of a check says, by how far it comes.
use Rattle.std.proofs.Common.{◌≡◌, ◌≢◌, ℕ, ◌<◌, ◌≤◌, List, length, refl, ap, ◌∙◌, subst, arith}
use Rattle.std.specs.Prelude.{Result, Ok, Err, OnOk}
use Rattle.family.specs.FamilyData.{FamilyData}
use Rattle.line_reader.specs.declared.fault.ReadSystemFault.{ReadSystemFault}
use Rattle.line_reader.specs.declared.fault.ReadSystemFault.TheVariants.{BadLine}
use Rattle.system_text.specs.BadLines.{IsBadLine}
use Rattle.system_text.specs.SystemValues.{IsSystemValue}
use Rattle.system_text.specs.Systems.{system_text}
use Rattle.system_text.specs.declared.value.System.{System}
use Rattle.system_check.specs.declared.fault.CheckAnswer.{CheckAnswer}
use Rattle.system_check.specs.declared.fault.CheckAnswer.TheVariants.{No, NoMemory}
use Rattle.system_check.specs.declared.fault.CheckFault.{CheckFault}
use Rattle.system_check.specs.declared.fault.CheckFault.TheVariants.{TooLong, BadText, BadName, BadField, BadRelation, BadTargets, BadReduction}
use Rattle.system_check.specs.declared.limits.TheConstants.{TEXT_LIMIT}
use Rattle.system_check.specs.Answers.{answer_of}
use Rattle.system_check.specs.Rightness.{IsRight, IsRightSystem}
use Rattle.system_check.specs.Checking.{IsCause, IsFault}
use Rattle.system_check.proofs.Causes.{one_bad_line, one_cause, no_cause}

abbrev Answer : Type 0
Answer = Result (Unit {0}) CheckAnswer

module _ (family : FamilyData) (bytes : List ℕ) where
  pub long_not_right : TEXT_LIMIT < length bytes → ¬ IsRight family bytes
  long_not_right long right = omega (arith, right.short)

  pub long_one : (fault : CheckFault) → TEXT_LIMIT < length bytes → IsFault family bytes fault → TooLong ≡ fault
  long_one TooLong long f = refl
  long_one (BadText k) long f = absurd (omega (arith, f.0))
  long_one BadName long f = absurd (omega (arith, f.short))
  long_one (BadField sector k) long f = absurd (omega (arith, f.short))
  long_one (BadRelation k) long f = absurd (omega (arith, f.short))
  long_one BadTargets long f = absurd (omega (arith, f.short))
  long_one (BadReduction k) long f = absurd (omega (arith, f.short))

  pub bad_not_right : (k : ℕ) → IsBadLine family.n bytes k → ¬ IsRight family bytes
  bad_not_right k bad right = bad.none right.system right.value right.text

  pub bad_one : (k : ℕ) (fault : CheckFault) → length bytes ≤ TEXT_LIMIT → IsBadLine family.n bytes k → IsFault family bytes fault → BadText k ≡ fault
  bad_one k TooLong short bad f = absurd (omega (arith, f))
  bad_one k (BadText j) short bad f = ap BadText (one_bad_line family.n bytes k j bad f.1)
  bad_one k BadName short bad f = absurd (bad.none f.system f.value f.text)
  bad_one k (BadField sector j) short bad f = absurd (bad.none f.system f.value f.text)
  bad_one k (BadRelation j) short bad f = absurd (bad.none f.system f.value f.text)
  bad_one k BadTargets short bad f = absurd (bad.none f.system f.value f.text)
  bad_one k (BadReduction j) short bad f = absurd (bad.none f.system f.value f.text)

  -- the bytes are not read
  module _ (why : ReadSystemFault) (answer : Answer) (is : answer ≡ Err (answer_of why)) (short : length bytes ≤ TEXT_LIMIT) (bad : (k : ℕ) → why ≡ BadLine k → IsBadLine family.n bytes k) where
    accepted_by : (e : ReadSystemFault) → why ≡ e → IsRight family bytes → answer ≢ Err NoMemory → answer ≡ Ok tt
    accepted_by (BadLine k) e right enough = absurd (bad_not_right k (bad k e) right)
    accepted_by ReadSystemFault.NoMemory e right enough = absurd (enough (is ∙ ap (λ (f : ReadSystemFault). Err (answer_of f)) e))

    pub unread_accepted : IsRight family bytes → answer ≢ Err NoMemory → answer ≡ Ok tt
    unread_accepted = accepted_by why refl

    refused_by : (e : ReadSystemFault) → why ≡ e → (f : CheckFault) → IsFault family bytes f → answer ≢ Err NoMemory → answer ≡ Err (No f)
    refused_by (BadLine k) e f fault enough =
        is ∙ ap (λ (g : ReadSystemFault). Err (answer_of g)) e ∙ ap (λ (h : CheckFault). Err (No h)) (bad_one k f short (bad k e) fault)
    refused_by ReadSystemFault.NoMemory e f fault enough = absurd (enough (is ∙ ap (λ (g : ReadSystemFault). Err (answer_of g)) e))

    pub unread_refused : (f : CheckFault) → IsFault family bytes f → answer ≢ Err NoMemory → answer ≡ Err (No f)
    unread_refused = refused_by why refl

  -- the bytes are the text of this system and of no other
  module _ (short : length bytes ≤ TEXT_LIMIT) (system : System) (value : IsSystemValue family.n system) (text : bytes ≡ system_text system)
      (one : (other : System) → IsSystemValue family.n other → bytes ≡ system_text other → other ≡ system) where
    is_right : IsRight family bytes → IsRightSystem family system
    is_right right = subst (IsRightSystem family) (one right.system right.value right.text) right.right

    pub cause_of : (fault : CheckFault) → IsFault family bytes fault → IsCause family system fault
    cause_of TooLong f = absurd (omega (arith, f))
    cause_of (BadText k) f = absurd (f.1.none system value text)
    cause_of BadName f = subst (λ (s : System). IsCause family s BadName) (one f.system f.value f.text) f.cause
    cause_of (BadField sector k) f = subst (λ (s : System). IsCause family s (BadField sector k)) (one f.system f.value f.text) f.cause
    cause_of (BadRelation k) f = subst (λ (s : System). IsCause family s (BadRelation k)) (one f.system f.value f.text) f.cause
    cause_of BadTargets f = subst (λ (s : System). IsCause family s BadTargets) (one f.system f.value f.text) f.cause
    cause_of (BadReduction k) f = subst (λ (s : System). IsCause family s (BadReduction k)) (one f.system f.value f.text) f.cause

    fault_of : (fault : CheckFault) → IsCause family system fault → IsFault family bytes fault
    fault_of TooLong c = absurd c
    fault_of (BadText k) c = absurd c
    fault_of BadName c = record { short = short; system = system; value = value; text = text; cause = c }
    fault_of (BadField sector k) c = record { short = short; system = system; value = value; text = text; cause = c }
    fault_of (BadRelation k) c = record { short = short; system = system; value = value; text = text; cause = c }
    fault_of BadTargets c = record { short = short; system = system; value = value; text = text; cause = c }
    fault_of (BadReduction k) c = record { short = short; system = system; value = value; text = text; cause = c }

    pub right_of : (answer : Answer) → OnOk answer (IsRightSystem family system) → OnOk answer (IsRight family bytes)
    right_of (Ok u) right = record { short = short; system = system; value = value; text = text; right = right }
    right_of (Err a) right = tt

    module _ (answer : Answer) (right : OnOk answer (IsRightSystem family system)) (fault : (f : CheckFault) → answer ≡ Err (No f) → IsCause family system f) where
      pub told : (f : CheckFault) → answer ≡ Err (No f) → IsFault family bytes f
      told f e = fault_of f (fault f e)

      by_answer : (a : Answer) → answer ≡ a → OnOk a (IsRightSystem family system) → IsRight family bytes → answer ≢ Err NoMemory → answer ≡ Ok tt
      by_answer (Ok u) e r is enough = e
      by_answer (Err (No f)) e r is enough = absurd (no_cause family system f (is_right is) (fault f e))
      by_answer (Err NoMemory) e r is enough = absurd (enough e)

      pub accepted : IsRight family bytes → answer ≢ Err NoMemory → answer ≡ Ok tt
      accepted is enough = by_answer answer refl right is enough

      by_fault : (a : Answer) → answer ≡ a → OnOk a (IsRightSystem family system) → (f : CheckFault) → IsFault family bytes f → answer ≢ Err NoMemory → answer ≡ Err (No f)
      by_fault (Ok u) e r f is enough = absurd (no_cause family system f r (cause_of f is))
      by_fault (Err (No g)) e r f is enough = e ∙ ap (λ (h : CheckFault). Err (No h)) (one_cause family system g f (fault g e) (cause_of f is))
      by_fault (Err NoMemory) e r f is enough = absurd (enough e)

      pub refused : (f : CheckFault) → IsFault family bytes f → answer ≢ Err NoMemory → answer ≡ Err (No f)
      refused f is enough = by_fault answer refl right f is enough

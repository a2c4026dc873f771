-- What a text stands for in a file, from the answer to it.
use Rattle.std.proofs.Common.{◌≡◌, ◌↔◌, ℕ, List, ap, sym, subst}
use Rattle.std.specs.Prelude.{Result, Ok, Err}
use Rattle.ibp_algebra.specs.Polynomial.{Polynomial}
use Rattle.poly_text.specs.declared.fault.TextFault.{TextFault}
use Rattle.poly_text.specs.declared.fault.Unread.{Unread}
use Rattle.poly_text.specs.PolyText.{NumbersValue, value_in, IsTextAnswer, IsNumberAnswer, UpToFault}
use Rattle.poly_text.specs.Answer.{text_answer, number_answer}
use Rattle.poly_text.proofs.Faulting.{answer_is}
use Rattle.poly_text.proofs.Answering.{number_is_answer}
use Rattle.family_file.specs.declared.fault.FileFault.{FileFault}
use Rattle.family_file.specs.declared.fault.FamilyFault.{FamilyFault}
use Rattle.family_file.specs.Reading.{Fails, fault_in}
use Rattle.family_file.specs.Polynomials.{or_fault, text_in, number_text_in}

module _ {X : Type 0} (IsAnswer : Result X TextFault → Type 0) (given : Result X TextFault) (is : (r : Result X TextFault) → (given ≡ r) ↔ IsAnswer r) (fault : FileFault) where
  value_told : (x : X) → UpToFault IsAnswer (Ok x) → or_fault fault given ≡ Ok x
  value_told x h = ap (or_fault fault) ((is (Ok x)).1 h)

  fault_told : (error : Unread) → UpToFault IsAnswer (Err error) → Fails (fault_in fault error) (or_fault fault given)
  fault_told Unread.Fault h = ap (or_fault fault) ((is (Err h.0)).1 h.1)
  fault_told Unread.NoMemory h = tt

module _ (fault : FileFault) (n : ℕ) (numbers : NumbersValue) (text : List ℕ) where
  pub text_value : (p : Polynomial) → UpToFault (IsTextAnswer n (value_in numbers) text) (Ok p) → text_in fault n numbers text ≡ Ok p
  unfolding text_in
  text_value p h = value_told (IsTextAnswer n (value_in numbers) text) (text_answer n (value_in numbers) text) (answer_is n (value_in numbers) text) fault p h

  pub text_fails : (error : Unread) (e : FamilyFault) → e ≡ fault_in fault error → UpToFault (IsTextAnswer n (value_in numbers) text) (Err error) → Fails e (text_in fault n numbers text)
  unfolding text_in
  text_fails error e is h =
      subst (λ f. Fails f (text_in fault n numbers text)) (sym is)
      (fault_told (IsTextAnswer n (value_in numbers) text) (text_answer n (value_in numbers) text) (answer_is n (value_in numbers) text) fault error h)

module _ (fault : FileFault) (text : List ℕ) where
  pub number_value : (x : ℕ) → UpToFault (IsNumberAnswer text) (Ok x) → number_text_in fault text ≡ Ok x
  unfolding number_text_in
  number_value x h = value_told (IsNumberAnswer text) (number_answer text) (number_is_answer text) fault x h

  pub number_fails : (error : Unread) (e : FamilyFault) → e ≡ fault_in fault error → UpToFault (IsNumberAnswer text) (Err error) → Fails e (number_text_in fault text)
  unfolding number_text_in
  number_fails error e is h =
      subst (λ f. Fails f (number_text_in fault text)) (sym is) (fault_told (IsNumberAnswer text) (number_answer text) (number_is_answer text) fault error h)

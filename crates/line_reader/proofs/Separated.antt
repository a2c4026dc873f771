-- Lists of entries in front of bytes.
use Rattle.std.proofs.Common.{◌≡◌, ◌≢◌, ℕ, List, [], ◌∷◌, ◌++◌, refl, sym, ap, ◌∙◌, append_assoc, append-nil, subst}
use Rattle.std.specs.List.{AllByRecursion}
use Rattle.std.proofs.lemmas.List.{append_cancel_left}
use Rattle.line_reader.specs.Entries.{more, separated}

-- what is left of a list behind those entries that were read
pub record Left {A : Type 0} (text : A → List ℕ) (separator : List ℕ) (xs done : List A) (final rest : List ℕ) : Type 0 where
  pub todo : List A
  pub split : xs ≡ done ++ todo
  pub left : rest ≡ more text separator todo ++ final

more_first : {A : Type 0} (text : A → List ℕ) (separator : List ℕ) (t : A) (ts : List A) (final : List ℕ)
    → more text separator (t ∷ ts) ++ final ≡ separator ++ (text t ++ (more text separator ts ++ final))
more_first text separator t ts final =
    append_assoc (separator ++ text t) (more text separator ts) final
    ∙ append_assoc separator (text t) (more text separator ts ++ final)

pub ends_more : {A : Type 0} (text : A → List ℕ) (separator : List ℕ) (Ends : List ℕ → Type 0) (xs : List A) (final : List ℕ)
    → Ends final → ((r : List ℕ) → Ends (separator ++ r)) → Ends (more text separator xs ++ final)
ends_more text separator Ends [] final ends behind = ends
ends_more text separator Ends (t ∷ ts) final ends behind =
    subst Ends (sym (more_first text separator t ts final)) (behind (text t ++ (more text separator ts ++ final)))

pub one_entry : {A : Type 0} (text : A → List ℕ) (separator : List ℕ) (x : A) (xs : List A) (final bytes : List ℕ)
    → bytes ≡ separated text separator x xs ++ final → bytes ≡ text x ++ (more text separator xs ++ final)
one_entry text separator x xs final bytes e = e ∙ append_assoc (text x) (more text separator xs) final

pub all_behind : {A : Type 0} (P : A → Type 0) (xs done todo : List A) → xs ≡ done ++ todo → AllByRecursion P xs → AllByRecursion P todo
all_behind P xs [] todo e p = subst (λ ys. AllByRecursion P ys) e p
all_behind P [] (d ∷ done) todo e p = absurd (cc)
all_behind P (x ∷ xs) (d ∷ done) todo e p = let rest : xs ≡ done ++ todo = cc in all_behind P xs done todo rest p.1

pub record Next {A : Type 0} (text : A → List ℕ) (separator : List ℕ) (todo : List A) (final others : List ℕ) : Type 0 where
  pub t : A
  pub ts : List A
  pub is : todo ≡ t ∷ ts
  pub front : others ≡ text t ++ (more text separator ts ++ final)

pub next_entry : {A : Type 0} (text : A → List ℕ) (separator : List ℕ) (todo : List A) (final rest others : List ℕ)
    → ((r : List ℕ) → final ≢ separator ++ r) → rest ≡ more text separator todo ++ final → rest ≡ separator ++ others
    → Next text separator todo final others
next_entry text separator [] final rest others ends e behind = absurd (ends others (sym e ∙ behind))
next_entry text separator (t ∷ ts) final rest others ends e behind =
    record {
      t = t;
      ts = ts;
      is = refl;
      front = append_cancel_left separator others (text t ++ (more text separator ts ++ final)) (sym behind ∙ e ∙ more_first text separator t ts final);
    }

pub none_left : {A : Type 0} (text : A → List ℕ) (separator : List ℕ) (xs done : List A) (final rest : List ℕ)
    → ((r : List ℕ) → rest ≢ separator ++ r) → Left text separator xs done final rest → (xs ≡ done) × (rest ≡ final)
none_left {A} text separator xs done final rest none so_far = by so_far.todo so_far.split so_far.left
  where
    by : (todo : List A) → xs ≡ done ++ todo → rest ≡ more text separator todo ++ final → (xs ≡ done) × (rest ≡ final)
    by [] split left = (split ∙ append-nil done, left)
    by (t ∷ ts) split left = absurd (none (text t ++ (more text separator ts ++ final)) (left ∙ more_first text separator t ts final))

-- one more was read
pub left_less : {A : Type 0} (text : A → List ℕ) (separator : List ℕ) (xs done : List A) (final rest : List ℕ) (t : A) (ts : List A)
    → xs ≡ done ++ (t ∷ ts) → rest ≡ more text separator ts ++ final → Left text separator xs (done ++ t ∷ []) final rest
left_less text separator xs done final rest t ts split left =
    record { todo = ts; split = split ∙ sym (append_assoc done (t ∷ []) ts); left = left }

-- one more behind those that passed
pub all_more : {A : Type 0} (P : A → Type 0) (xs : List A) (x : A) (ys : List A) → ys ≡ xs ++ x ∷ [] → AllByRecursion P xs → P x → AllByRecursion P ys
all_more {A} P xs x ys e are is = subst (λ (zs : List A). AllByRecursion P zs) (sym e) (go xs are)
  where
    go : (xs : List A) → AllByRecursion P xs → AllByRecursion P (xs ++ x ∷ [])
    go [] are = (is, tt)
    go (z ∷ xs) are = (are.0, go xs are.1)

-- the first one was read
pub first_read : {A : Type 0} (text : A → List ℕ) (separator : List ℕ) (x y : A) (xs done : List A) (final rest : List ℕ)
    → (y ≡ x) × (rest ≡ more text separator xs ++ final) → done ≡ [] ++ y ∷ [] → Left text separator (x ∷ xs) done final rest
first_read text separator x y xs done final rest (same, left) is =
    record { todo = xs; split = ap (λ z. z ∷ xs) (sym same) ∙ ap (λ (zs : List _). zs ++ xs) (sym is); left = left }

-- one more was read
pub next_read : {A : Type 0} (text : A → List ℕ) (separator : List ℕ) (xs done now todo : List A) (final rest others left : List ℕ) (y : A) (next : Next text separator todo final others)
    → xs ≡ done ++ todo → (y ≡ next.t) × (left ≡ more text separator next.ts ++ final) → now ≡ done ++ y ∷ [] → Left text separator xs now final left
next_read {A} text separator xs done now todo final rest others left y next split (same, is_left) is =
    subst (λ (zs : List A). Left text separator xs zs final left) (ap (λ (z : A). done ++ z ∷ []) (sym same) ∙ sym is)
    (left_less text separator xs done final left next.t next.ts (split ∙ ap (λ (zs : List A). done ++ zs) next.is) is_left)

-- How many states texts lead to.
use Rattle.std.proofs.Common.{◌≡◌, ℕ, zero, suc, ◌<◌, ◌≤◌, List, [], ◌∷◌, length, get_or, slice_get, IsSome, Option, Some, None, refl, sym, subst, ◌∙◌, inl, inr, arith}
use Rattle.std.specs.List.{All}
use Rattle.std.proofs.lemmas.Bool.{cases_order}
use Rattle.std.proofs.lemmas.List.Elements.{All-head, All-tail}
use Rattle.std.proofs.lemmas.Option.{slice_get_within}
use Rattle.indexmap.proofs.IndexTableLemmas.Probe.{pigeonhole}
use Rattle.kb_fsa.specs.Counted.{MoreThan}
use Rattle.kb_explore.specs.Machine.{Machine, leads, HasMoreStates}

-- texts that count one way and lead to different things count another way too, where they still lead to different
-- things
pub MoreThan-kept : {Counts Counts' : List ℕ → Type 0} {Same Same' : List ℕ → List ℕ → Type 0} {m : ℕ} → MoreThan Counts Same m
    → ((text : List ℕ) → Counts text → Counts' text)
    → ((text other : List ℕ) → Counts text → Counts other → Same' text other → Same text other)
    → MoreThan Counts' Same' m
MoreThan-kept more counts same = record {
  texts = more.texts;
  many = more.many;
  count = λ k d within. counts (get_or more.texts k d) (more.count k d within);
  differ = λ i j d less within alike.
      more.differ i j d less within (same (get_or more.texts i d) (get_or more.texts j d)
      (more.count i d (omega arith)) (more.count j d within) alike);
}

-- more than m is more than fewer
pub MoreThan-fewer : {Counts : List ℕ → Type 0} {Same : List ℕ → List ℕ → Type 0} {m n : ℕ} → MoreThan Counts Same m → n ≤ m
    → MoreThan Counts Same n
MoreThan-fewer more le = record {
  texts = more.texts;
  many = let many = more.many in omega arith;
  count = more.count;
  differ = more.differ;
}

-- a number for each of a list's things
Chosen : {X : Type 0} → (X → ℕ → Type 0) → List X → Type 0
Chosen {X} P xs = (numbers : List ℕ) × ((i : ℕ) (d : X) → i < length xs → P (get_or xs i d) (get_or numbers i 0))

chosen_at : {X : Type 0} (P : X → ℕ → Type 0) (x : X) (xs : List X) (number : ℕ) (numbers : List ℕ) → P x number
    → ((i : ℕ) (d : X) → i < length xs → P (get_or xs i d) (get_or numbers i 0))
    → (i : ℕ) (d : X) → i < suc (length xs) → P (get_or (x ∷ xs) i d) (get_or (number ∷ numbers) i 0)
chosen_at P x xs number numbers first rest zero d within = first
chosen_at P x xs number numbers first rest (suc i) d within = rest i d (omega arith)

chosen : {X : Type 0} (P : X → ℕ → Type 0) (xs : List X) → All (λ x. (number : ℕ) × P x number) xs → Chosen P xs
unfolding Chosen
chosen P [] each = ([], λ i d within. absurd (let no : ⊥ = omega arith in no))
chosen {X} P (x ∷ xs) each =
    let first = All-head (λ (y : X). (number : ℕ) × P y number) x xs each in
    let rest = chosen P xs (All-tail (λ (y : X). (number : ℕ) × P y number) x xs each) in
    (first.0 ∷ rest.0, chosen_at P x xs first.0 rest.0 first.1 rest.1)

-- Where each text that counts has a number below m, and texts with one number lead to the same thing, not more than m
-- texts lead to different things.
pub MoreThan-numbered : {Counts : List ℕ → Type 0} {Same : List ℕ → List ℕ → Type 0} {m : ℕ} (Numbers : List ℕ → ℕ → Type 0)
    → ((text : List ℕ) → Counts text → (number : ℕ) × ((number < m) × Numbers text number))
    → ((text other : List ℕ) (number : ℕ) → Numbers text number → Numbers other number → Same text other)
    → ¬ MoreThan Counts Same m
unfolding Chosen
MoreThan-numbered {Same} {m} Numbers number same more =
    let picked = chosen (λ text n. (n < m) × Numbers text n) more.texts (λ k d within. number (get_or more.texts k d) (more.count k d within)) in
    let apart : (i j : ℕ) → i < j → j < length more.texts → get_or picked.0 i 0 ≡ get_or picked.0 j 0 → ⊥ = λ i j less within e.
    let P : ℕ → Type 0 = λ n. Numbers (get_or more.texts j []) n in
    more.differ i j [] less within (same (get_or more.texts i []) (get_or more.texts j []) (get_or picked.0 i 0)
    (picked.1 i [] (omega arith)).1 (subst P (sym e) (picked.1 j [] within).1)) in
    let many = more.many in
    let few = pigeonhole (length more.texts) m (λ i. get_or picked.0 i 0) (λ i within. (picked.1 i [] within).0)
    (λ i j one other e. elim (cases_order i j) [
      | inl alike ↦ alike
      | inr differ ↦ elim differ [ inl less ↦ absurd (apart i j less other e) | inr more ↦ absurd (apart j i more one (sym e)) ]
    ]) in
    omega arith

-- texts that lead to states of a list don't lead to more states than the list has
pub no_more_among : {S : Type 0} {Counts : List ℕ → Type 0} (machine : Machine S) (states : List S) (m : ℕ) → length states ≤ m
    → ((text : List ℕ) → Counts text
    → (place : ℕ) × ((state : S) × ((leads machine text ≡ Some state) × (slice_get states place ≡ Some state))))
    → ¬ MoreThan Counts (λ text other. leads machine text ≡ leads machine other) m
no_more_among {S} machine states m le listed =
    MoreThan-numbered (λ text place. (state : S) × ((leads machine text ≡ Some state) × (slice_get states place ≡ Some state)))
    (λ text counts.
    let at = listed text counts in
    let within = slice_get_within states at.0 at.1.0 at.1.1.1 in
    (at.0, (omega arith, at.1)))
    (λ text other place one two. one.1.0 ∙ sym one.1.1 ∙ two.1.1 ∙ sym two.1.0)

-- a text that leads somewhere leads to a state
pub some_state : {S : Type 0} (machine : Machine S) (text : List ℕ) → IsSome (leads machine text)
    → (state : S) × (leads machine text ≡ Some state)
some_state {S} machine text some = by (leads machine text) refl some
  where
    by : (o : Option S) → leads machine text ≡ o → IsSome o → (state : S) × (leads machine text ≡ Some state)
    by None e is = absurd (let no : ⊥ = cc in no)
    by (Some state) e is = (state, e)

-- a machine whose texts lead to states of a list doesn't have more states than the list
pub no_more_states : {S : Type 0} (machine : Machine S) (states : List S) (m : ℕ) → length states ≤ m
    → ((text : List ℕ) (state : S) → leads machine text ≡ Some state → (place : ℕ) × (slice_get states place ≡ Some state))
    → ¬ HasMoreStates machine m
no_more_states machine states m le listed =
    no_more_among machine states m le (λ text some.
    let is = some_state machine text some in
    let at = listed text is.0 is.1 in
    (at.0, (is.0, (is.1, at.1))))

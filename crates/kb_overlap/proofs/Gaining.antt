-- What a list gains.
use Rattle.std.proofs.Common.{◌≡◌, ℕ, ◌+◌, ◌<◌, ◌⊎◌, List, [], ◌∷◌, length, get_or, take, sym, subst, inl, inr, arith}
use Rattle.std.specs.List.{Contains}
use Rattle.std.proofs.lemmas.List.{take_more}
use Rattle.std.proofs.lemmas.List.Elements.{Contains-append_cases, Contains-append_left, Contains-append_right, Contains-push, Contains-push_cases}
use Rattle.kb_trie.specs.Adding.{Adds}
use Rattle.kb_overlap.specs.Ways.{Gains}

-- nothing, where there is no such element
pub gains_none : {A : Type 0} (Such : A → Type 0) (xs : List A) → ((one : A) → ¬ Such one) → Gains Such xs xs
gains_none Such xs none = record {
  kept = λ one there. there;
  gained = λ one is. absurd (none one is);
  only = λ one there. inl there;
}

-- the same elements under another name
pub gains_same : {A : Type 0} (Such Other : A → Type 0) (xs ys : List A) → ((one : A) → Such one → Other one)
    → ((one : A) → Other one → Such one) → Gains Such xs ys → Gains Other xs ys
gains_same Such Other xs ys to from gains = record {
  kept = gains.kept;
  gained = λ one other. gains.gained one (from one other);
  only = λ one there.
      elim (gains.only one there) [
        | inl before ↦ inl before
        | inr such ↦ inr (to one such)
      ];
}

-- one kind of elements and then another
pub gains_then : {A : Type 0} (One Two Both : A → Type 0) (xs ys zs : List A) → Gains One xs ys → Gains Two ys zs
    → ((one : A) → One one → Both one) → ((one : A) → Two one → Both one) → ((one : A) → Both one → One one ⊎ Two one)
    → Gains Both xs zs
gains_then One Two Both xs ys zs first second of_one of_two split = record {
  kept = λ one there. second.kept one (first.kept one there);
  gained = λ one both.
      elim (split one both) [
        | inl is ↦ second.kept one (first.gained one is)
        | inr is ↦ second.gained one is
      ];
  only = λ one there.
      elim (second.only one there) [
        | inl between ↦
            elim (first.only one between) [
              | inl before ↦ inl before
              | inr is ↦ inr (of_one one is)
            ]
        | inr is ↦ inr (of_two one is)
      ];
}

-- the numbers that a list gained at its end
pub gains_adds : (Such : ℕ → Type 0) (xs ys : List ℕ) → Adds Such xs ys → Gains Such xs ys
gains_adds Such xs ys adds =
    let P : List ℕ → Type 0 = λ list. Gains Such xs list in
    subst P (sym adds.whole) (record {
      kept = λ one there. Contains-append_left xs adds.more one there;
      gained = λ one such. Contains-append_right xs adds.more one (adds.all one such);
      only = λ one there.
          elim (Contains-append_cases xs adds.more one there) [
            | inl before ↦ inl before
            | inr after ↦ inr (adds.each one after)
          ];
    })

-- such an element by one of the states
pub record Over {A : Type 0} (Such : ℕ → A → Type 0) (states : List ℕ) (one : A) : Type 0 where
  pub state : ℕ
  pub among : Contains states state
  pub is : Such state one

pub over_none : {A : Type 0} (Such : ℕ → A → Type 0) (xs : List A) → Gains (Over Such []) xs xs
over_none Such xs = gains_none (Over Such []) xs (λ one over. let among = over.among in absurd (let no : ⊥ = omega (arith, among.1) in no))

over_part : (states : List ℕ) (count : ℕ) → count < length states → (state : ℕ) → Contains (take (count + 1) states) state
    → Contains (take count states) state ⊎ (get_or states count 0 ≡ state)
over_part states count within state there =
    let P : List ℕ → Type 0 = λ part. Contains part state in
    Contains-push_cases (take count states) (get_or states count 0) state (subst P (take_more states count 0 within) there)

part_front : (states : List ℕ) (count : ℕ) → count < length states → (state : ℕ) → Contains (take count states) state
    → Contains (take (count + 1) states) state
part_front states count within state there =
    let P : List ℕ → Type 0 = λ part. Contains part state in
    subst P (sym (take_more states count 0 within)) (Contains-append_left (take count states) (get_or states count 0 ∷ []) state there)

part_last : (states : List ℕ) (count : ℕ) → count < length states → Contains (take (count + 1) states) (get_or states count 0)
part_last states count within =
    let P : List ℕ → Type 0 = λ part. Contains part (get_or states count 0) in
    subst P (sym (take_more states count 0 within)) (Contains-push (take count states) (get_or states count 0))

-- with a state more
pub over_more : {A : Type 0} (Such : ℕ → A → Type 0) (states : List ℕ) (count : ℕ) (xs ys zs : List A) → count < length states
    → Gains (Over Such (take count states)) xs ys → Gains (Such (get_or states count 0)) ys zs
    → Gains (Over Such (take (count + 1) states)) xs zs
over_more Such states count xs ys zs within first second =
    let last : ℕ = get_or states count 0 in
    gains_then (Over Such (take count states)) (Such last) (Over Such (take (count + 1) states)) xs ys zs first second
    (λ one over. record { state = over.state; among = part_front states count within over.state over.among; is = over.is })
    (λ one is. record { state = last; among = part_last states count within; is = is })
    (λ one over.
    elim (over_part states count within over.state over.among) [
      | inl earlier ↦ inl (record { state = over.state; among = earlier; is = over.is })
      | inr same ↦ let P : ℕ → Type 0 = λ state. Such state one in inr (subst P (sym same) over.is)
    ])

-- What a list gained.
use Rattle.std.proofs.Common.{◌≡◌, ℕ, zero, suc, ◌⊎◌, List, [], ◌∷◌, ◌++◌, refl, sym, ap, ◌∙◌, subst, inl, inr, arith, append_assoc}
use Rattle.std.specs.List.{Contains}
use Rattle.std.proofs.lemmas.List.{append-nil}
use Rattle.std.proofs.lemmas.List.Elements.{Contains-append_left, Contains-append_right, Contains-append_cases}
use Rattle.kb_trie.specs.Adding.{Adds}

pub contains_none : (number : ℕ) → Contains [] number → ⊥
contains_none number is = omega (arith, is.1)

pub contains_one : (this number : ℕ) → Contains (this ∷ []) number → this ≡ number
contains_one this number (zero, within, is) = is
contains_one this number (suc place, within, is) = absurd (let no : ⊥ = omega arith in no)

-- nothing, where there is no such number
pub adds_none : (Such : ℕ → Type 0) (xs : List ℕ) → ((number : ℕ) → ¬ Such number) → Adds Such xs xs
adds_none Such xs none =
    record {
      more = [];
      whole = sym (append-nil xs);
      each = λ number is. absurd (contains_none number is);
      all = λ number such. absurd (none number such);
    }

-- the only such number
pub adds_push : (Such : ℕ → Type 0) (xs : List ℕ) (this : ℕ) → Such this → ((number : ℕ) → Such number → number ≡ this)
    → Adds Such xs (xs ++ this ∷ [])
adds_push Such xs this such alone =
    record {
      more = this ∷ [];
      whole = refl;
      each = λ number is. subst Such (contains_one this number is) such;
      all = λ number is.
          let P : ℕ → Type 0 = λ n. Contains (this ∷ []) n in
          subst P (sym (alone number is)) (0, omega arith, refl);
    }

-- the same numbers under another name
pub adds_same : (Such Other : ℕ → Type 0) (xs ys : List ℕ) → ((number : ℕ) → Such number → Other number)
    → ((number : ℕ) → Other number → Such number) → Adds Such xs ys → Adds Other xs ys
adds_same Such Other xs ys to from adds =
    record {
      more = adds.more;
      whole = adds.whole;
      each = λ number is. to number (adds.each number is);
      all = λ number other. adds.all number (from number other);
    }

-- one kind of numbers and then another
pub adds_then : (One Two Both : ℕ → Type 0) (xs ys zs : List ℕ) → Adds One xs ys → Adds Two ys zs
    → ((number : ℕ) → One number → Both number) → ((number : ℕ) → Two number → Both number)
    → ((number : ℕ) → Both number → One number ⊎ Two number) → Adds Both xs zs
adds_then One Two Both xs ys zs first second of_one of_two split =
    record {
      more = first.more ++ second.more;
      whole =
          second.whole ∙ ap (λ (l : List ℕ). l ++ second.more) first.whole ∙ append_assoc xs first.more second.more;
      each = λ number is.
          elim (Contains-append_cases first.more second.more number is) [
            | inl one ↦ of_one number (first.each number one)
            | inr two ↦ of_two number (second.each number two)
          ];
      all = λ number both.
          elim (split number both) [
            | inl one ↦ Contains-append_left first.more second.more number (first.all number one)
            | inr two ↦ Contains-append_right first.more second.more number (second.all number two)
          ];
    }

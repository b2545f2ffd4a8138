-- Numbers of things, one after another.
use Rattle.std.proofs.Common.{◌≡◌, ℕ, ◌+◌, ◌<◌, nat_eq, List, [], ◌∷◌, ◌++◌, length, get_or, map, refl, sym, ap, ◌∙◌, subst, inl, inr, arith, if◌then◌else◌}
use Rattle.std.specs.List.{list_any, position_or_len}
use Rattle.std.proofs.lemmas.Bool.{cases_eq, cases_lt}
use Rattle.std.proofs.lemmas.Bool.Decides.{Decides-eqb}
use Rattle.std.proofs.lemmas.List.{length_push, get_or_push, get_or_append_left, map-id}
use Rattle.kb_fsamin.specs.Rounds.{Inserted}
use Rattle.kb_fsamin.specs.Partitions.{part_of}
use Rattle.kb_fsamin.specs.Splitting.{AreNumbered}
use Rattle.kb_fsamin.proofs.RoundSteps.{Inserted-map}

inserted_number : (keys keys' : List ℕ) (key number : ℕ) → keys' ≡ (if list_any (nat_eq key) keys then keys else keys ++ key ∷ [])
    → number ≡ position_or_len (nat_eq key) keys → Inserted keys keys' key number
inserted_number keys keys' key number after place =
    let all = Inserted-map nat_eq (λ (x : ℕ). x) Decides-eqb keys keys' key number after place in
    subst (λ ks. Inserted ks keys' key number) (map-id keys) (subst (λ ks. Inserted (map (λ (x : ℕ). x) keys) ks key number) (map-id keys') all)

pub numbered_more : (thing : ℕ → ℕ) (done : ℕ) (seen seen' numbers : List ℕ) (number : ℕ)
    → seen' ≡ (if list_any (nat_eq (thing done)) seen then seen else seen ++ thing done ∷ [])
    → number ≡ position_or_len (nat_eq (thing done)) seen
    → AreNumbered thing done seen numbers → AreNumbered thing (done + 1) seen' (numbers ++ number ∷ [])
numbered_more thing done seen seen' numbers number after at all =
    let inserted = inserted_number seen seen' (thing done) number after at in
    record {
      one_each = length_push numbers number ∙ ap (λ n. n + 1) all.one_each;
      few = omega (arith, all.few, inserted.few);
      place = λ k h. elim (cases_eq k done) [
        | inl last ↦
            let here : part_of (numbers ++ number ∷ []) k ≡ number =
            ap (part_of (numbers ++ number ∷ [])) last ∙ get_or_push numbers number 0 done all.one_each in
            (omega (arith, inserted.within), ap (λ n. get_or seen' n 0) here ∙ inserted.here 0 ∙ ap thing (sym last))
        | inr before ↦
            let low : k < done = omega arith in
            let here : part_of (numbers ++ number ∷ []) k ≡ part_of numbers k = get_or_append_left numbers (number ∷ []) 0 k (omega (arith, all.one_each)) in
            let old = all.place k low in
            (omega (arith, old.0, inserted.grows), ap (λ n. get_or seen' n 0) here ∙ inserted.kept (part_of numbers k) 0 old.0 ∙ old.1)
      ];
      distinct = λ j k one two same. elim (cases_lt j (length seen)) [
        | inl first ↦ elim (cases_lt k (length seen)) [
          | inl second ↦ all.distinct j k first second (sym (inserted.kept j 0 first) ∙ same ∙ inserted.kept k 0 second)
          | inr last ↦
              let is = inserted.last k two last in
              absurd (inserted.fresh (omega arith) j 0 first (sym (inserted.kept j 0 first) ∙ same ∙ ap (λ n. get_or seen' n 0) is ∙ inserted.here 0))
        ]
        | inr last ↦
            let is = inserted.last j one last in
            elim (cases_lt k (length seen)) [
              | inl second ↦
                  absurd (inserted.fresh (omega arith) k 0 second
                  (sym (inserted.kept k 0 second) ∙ sym same ∙ ap (λ n. get_or seen' n 0) is ∙ inserted.here 0))
              | inr also ↦ is ∙ sym (inserted.last k two also)
            ]
      ];
    }

pub numbered_same : (thing : ℕ → ℕ) (done : ℕ) (seen numbers : List ℕ) → AreNumbered thing done seen numbers
    → (k other : ℕ) → k < done → other < done → thing k ≡ thing other → part_of numbers k ≡ part_of numbers other
numbered_same thing done seen numbers all k other h i same =
    let one = all.place k h in
    let two = all.place other i in
    all.distinct (part_of numbers k) (part_of numbers other) one.0 two.0 (one.1 ∙ same ∙ sym two.1)

-- and things of one number are equal
pub numbered_apart : (thing : ℕ → ℕ) (done : ℕ) (seen numbers : List ℕ) → AreNumbered thing done seen numbers
    → (k other : ℕ) → k < done → other < done → part_of numbers k ≡ part_of numbers other → thing k ≡ thing other
numbered_apart thing done seen numbers all k other h i same =
    sym (all.place k h).1 ∙ ap (λ n. get_or seen n 0) same ∙ (all.place other i).1

pub none_numbered : (thing : ℕ → ℕ) → AreNumbered thing 0 [] []
none_numbered thing = record {
  one_each = refl;
  few = omega arith;
  place = λ k h. absurd (let no : ⊥ = omega arith in no);
  distinct = λ j k one two same. absurd (let no : ⊥ = omega arith in no);
}

-- One round, state after state.
use Rattle.std.proofs.Common.{◌≡◌, ◌≢◌, ℕ, zero, suc, ◌+◌, ◌-◌, ◌<◌, ◌≤◌, Bool, true, false, not, List, [], ◌∷◌, ◌++◌, length, get_or, map, refl, sym, ap, ◌∙◌, subst, inl, inr, arith, if◌then◌else◌}
use Rattle.std.specs.Bool.{Decides}
use Rattle.std.specs.List.{list_any, position_or_len}
use Rattle.std.proofs.lemmas.Bool.{cases_eq, cases_lt, true≢false}
use Rattle.std.proofs.lemmas.List.{length_push, get_or_default, length-map, get_or-map, get_or_push, get_or_past, get_or_append_left, map_push}
use Rattle.std.proofs.lemmas.List.Folds.{list_any_at, list_any_none}
use Rattle.std.proofs.lemmas.List.Sums.{passes_at_first, fails_before_first, prefix_len-le-length}
use Rattle.kb_fsa.specs.Table.{Table}
use Rattle.kb_fsamin.specs.Rounds.{class_of, Sight, sight, IsFirstSeen, IsRound, IsRefined, Inserted}

-- ---- an insert

pub Inserted-map : {K X : Type 0} (eq : K → K → Bool) (f : K → X) → ((a b : K) → Decides (eq a b) (f a ≡ f b))
    → (keys keys' : List K) (key : K) (number : ℕ)
    → keys' ≡ (if list_any (eq key) keys then keys else keys ++ key ∷ []) → number ≡ position_or_len (eq key) keys
    → Inserted (map f keys) (map f keys') (f key) number
Inserted-map {K} {X} eq f decides keys keys' key number after place =
    elim (cases_lt number (length keys)) [
      | inl within ↦
          let there : position_or_len (eq key) keys < length keys = omega arith in
          let passes : eq key (get_or keys number key) ≡ true =
          ap (λ n. eq key (get_or keys n key)) place ∙ passes_at_first (eq key) keys key there in
          let same : keys' ≡ keys = after ∙ ap (λ b. if b then keys else keys ++ key ∷ []) (list_any_at (eq key) keys number key within passes) in
          let here : get_or (map f keys) number (f key) ≡ f key =
          get_or-map f keys number key (f key) within ∙ sym ((decides key (get_or keys number key)).0 passes) in
          subst (λ ks. Inserted (map f keys) (map f ks) (f key) number) (sym same) (found (map f keys) (f key) number
          (omega (arith, length-map keys f)) here)
      | inr past ↦
          let end : number ≡ length keys = omega (arith, prefix_len-le-length (λ x. not (eq key x)) keys) in
          let none : (k : ℕ) (d : K) → k < length keys → eq key (get_or keys k d) ≡ false = λ k d h.
          fails_before_first (eq key) keys k d (omega arith) in
          let new : keys' ≡ keys ++ key ∷ [] =
          after ∙ ap (λ b. if b then keys else keys ++ key ∷ []) (list_any_none (eq key) keys none) in
          let apart : (k : ℕ) (d : X) → k < length (map f keys) → get_or (map f keys) k d ≢ f key = λ k d h is.
          let low : k < length keys = omega (arith, length-map keys f) in
          true≢false (sym ((decides key (get_or keys k key)).1 (sym is ∙ get_or-map f keys k key d low)) ∙ none k key low) in
          subst (λ ks. Inserted (map f keys) (map f ks) (f key) number) (sym new)
          (subst (λ xs. Inserted (map f keys) xs (f key) number) (sym (map_push f keys key))
          (added (map f keys) (f key) number (end ∙ sym (length-map keys f)) apart))
    ]
  where
    found : {Y : Type 0} (seen : List Y) (x : Y) (n : ℕ) → n < length seen → get_or seen n x ≡ x → Inserted seen seen x n
    found seen x n within at = record {
      within = within;
      here = λ d. get_or_default seen n d x within ∙ at;
      kept = λ k d h. refl;
      grows = omega arith;
      few = omega arith;
      last = λ k low high. absurd (omega arith);
      fresh = λ past. absurd (omega arith);
    }

    added : {Y : Type 0} (seen : List Y) (x : Y) (n : ℕ) → n ≡ length seen
        → ((k : ℕ) (d : Y) → k < length seen → get_or seen k d ≢ x) → Inserted seen (seen ++ x ∷ []) x n
    added seen x n end apart = record {
      within = omega (arith, length_push seen x);
      here = λ d. get_or_push seen x d n (sym end);
      kept = λ k d h. get_or_append_left seen (x ∷ []) d k h;
      grows = omega (arith, length_push seen x);
      few = omega (arith, length_push seen x);
      last = λ k low high. omega (arith, length_push seen x);
      fresh = λ _. apart;
    }

-- ---- a round

-- the classes of the states before stay
class_kept : (new : List ℕ) (class done state : ℕ) → length new ≡ done → state < done → class_of (new ++ class ∷ []) state ≡ class_of new state
class_kept new class done state all h = get_or_append_left new (class ∷ []) 0 state (omega arith)

class_new : (new : List ℕ) (class done : ℕ) → length new ≡ done → class_of (new ++ class ∷ []) done ≡ class
class_new new class done all = get_or_push new class 0 done all

-- state 0 is no state
pub round_none : (table : Table) (old : List ℕ) → class_of old 0 ≡ 0 → IsRound table old 1 [] (0 ∷ [])
round_none table old none = record {
  one_each = refl;
  few = omega arith;
  dead = λ state h is. ap (class_of (0 ∷ [])) (start state h);
  place = λ state k h some. absurd (some (ap (class_of old) (start state h) ∙ none));
  alive = λ state h some. absurd (some (ap (class_of old) (start state h) ∙ none));
  distinct = λ j k d low. absurd (omega arith);
  attained = λ k low. absurd (omega arith);
  first_seen = λ state most h _. omega (arith, ap (class_of (0 ∷ [])) (start state h));
  above = λ _ k d low. absurd (omega arith);
  bounded = λ _ state h. omega (arith, ap (class_of old) (start state h), none);
}
  where
    start : (state : ℕ) → state < 1 → state ≡ 0
    start state h = omega arith

module _ (table : Table) (old : List ℕ) (done : ℕ) (seen : List Sight) (new : List ℕ) (round : IsRound table old done seen new) where
  -- a state that leads to no acceptance
  pub round_dead : class_of old done ≡ 0 → IsRound table old (done + 1) seen (new ++ 0 ∷ [])
  round_dead is_dead = record {
    one_each = length_push new 0 ∙ ap (λ n. n + 1) round.one_each;
    few = omega (arith, round.few);
    dead = λ state h is. elim (cases_eq state done) [
      | inl here ↦ ap (class_of (new ++ 0 ∷ [])) here ∙ class_new new 0 done round.one_each
      | inr before ↦ let low : state < done = omega arith in kept state low ∙ round.dead state low is
    ];
    place = λ state k h some is.
        let low = below state h some in round.place state k low some (sym (kept state low) ∙ is);
    alive = λ state h some is. let low = below state h some in round.alive state low some (sym (kept state low) ∙ is);
    distinct = round.distinct;
    attained = λ k h.
        let at = round.attained k h in (at.0, omega (arith, at.1), kept at.0 at.1 ∙ at.2);
    first_seen = λ state most h all. elim (cases_eq state done) [
      | inl here ↦ omega (arith, ap (class_of (new ++ 0 ∷ [])) here, class_new new 0 done round.one_each)
      | inr before ↦
          let low : state < done = omega arith in
          omega (
            arith,
            kept state low,
            round.first_seen state most low (λ earlier less.
                omega (arith, kept earlier (omega arith), all earlier less)),
          )
    ];
    above = λ order. round.above (λ state most h. order state most (omega arith));
    bounded = λ order state h. elim (cases_eq state done) [
      | inl here ↦ omega (arith, ap (class_of old) here)
      | inr before ↦ round.bounded (λ s most less. order s most (omega arith)) state (omega arith)
    ];
  }
    where
      kept : (state : ℕ) → state < done → class_of (new ++ 0 ∷ []) state ≡ class_of new state
      kept state h = class_kept new 0 done state round.one_each h

      below : (state : ℕ) → state < done + 1 → class_of old state ≢ 0 → state < done
      below state h some = elim (cases_eq state done) [
        | inl here ↦ absurd (some (ap (class_of old) here ∙ is_dead))
        | inr before ↦ omega arith
      ]

-- a state that leads to acceptance
module _ (table : Table) (old : List ℕ) (done : ℕ) (seen seen' : List Sight) (new : List ℕ) (number : ℕ)
    (round : IsRound table old done seen new) (some : class_of old done ≢ 0) (inserted : Inserted seen seen' (sight table old done) number) where
  new' : List ℕ
  new' = new ++ suc number ∷ []

  kept : (state : ℕ) → state < done → class_of new' state ≡ class_of new state
  unfolding new'
  kept state h = class_kept new (suc number) done state round.one_each h

  here : class_of new' done ≡ suc number
  unfolding new'
  here = class_new new (suc number) done round.one_each

  here_at : (state : ℕ) → state ≡ done → class_of new' state ≡ suc number
  here_at state is = ap (class_of new') is ∙ here

  place : (state k : ℕ) → state < done + 1 → class_of old state ≢ 0 → class_of new' state ≡ suc k
      → (k < length seen') × ((d : Sight) → get_or seen' k d ≡ sight table old state)
  place state k h live is = elim (cases_eq state done) [
    | inl last ↦
        let number_is : k ≡ number = omega (arith, here_at state last) in
        (omega (arith, inserted.within), λ d. ap (λ n. get_or seen' n d) number_is ∙ inserted.here d ∙ ap (sight table old) (sym last))
    | inr before ↦
        let low : state < done = omega arith in
        let at = round.place state k low live (sym (kept state low) ∙ is) in
        (omega (arith, at.0, inserted.grows), λ d. inserted.kept k d at.0 ∙ at.1 d)
  ]

  distinct : (j k : ℕ) (d : Sight) → j < length seen' → k < length seen' → get_or seen' j d ≡ get_or seen' k d → j ≡ k
  distinct j k d one two same = elim (cases_lt j (length seen)) [
    | inl first ↦ elim (cases_lt k (length seen)) [
      | inl second ↦ round.distinct j k d first second (sym (inserted.kept j d first) ∙ same ∙ inserted.kept k d second)
      | inr last ↦
          let is = inserted.last k two last in
          absurd (inserted.fresh (omega arith) j d first (sym (inserted.kept j d first) ∙ same ∙ ap (λ n. get_or seen' n d) is ∙ inserted.here d))
    ]
    | inr last ↦
        let is = inserted.last j one last in
        elim (cases_lt k (length seen)) [
          | inl second ↦
              absurd (inserted.fresh (omega arith) k d second (sym (inserted.kept k d second) ∙ sym same ∙ ap (λ n. get_or seen' n d) is ∙ inserted.here d))
          | inr also ↦ is ∙ sym (inserted.last k two also)
        ]
  ]

  attained : (k : ℕ) → k < length seen' → (state : ℕ) × (state < done + 1) × (class_of new' state ≡ suc k)
  attained k h = elim (cases_lt k (length seen)) [
    | inl before ↦ let at = round.attained k before in (at.0, omega (arith, at.1), kept at.0 at.1 ∙ at.2)
    | inr last ↦ (done, omega arith, here ∙ ap suc (sym (inserted.last k h last)))
  ]

  -- the new class is by at most one above those before it
  next_class : (most : ℕ) → ((earlier : ℕ) → earlier < done → class_of new earlier ≤ most) → number ≤ most
  next_class most all = elim (cases_eq (length seen) 0) [
    | inl nothing ↦ omega (arith, inserted.within, inserted.few)
    | inr something ↦
        let at = round.attained (length seen - 1) (omega arith) in
        omega (arith, inserted.within, inserted.few, at.2, all at.0 at.1)
  ]

  first_seen : IsFirstSeen new' (done + 1)
  first_seen state most h all = elim (cases_eq state done) [
    | inl last ↦
        let fits = next_class most (λ earlier less. omega (arith, kept earlier less, all earlier (omega arith))) in
        omega (arith, here_at state last)
    | inr before ↦
        let low : state < done = omega arith in
        omega (arith, kept state low, round.first_seen state most low (λ earlier less. omega (arith, kept earlier (omega arith), all earlier less)))
  ]

  shorter : IsFirstSeen old (done + 1) → IsFirstSeen old done
  shorter order state most h all = order state most (omega arith) all

  above : IsFirstSeen old (done + 1) → (k : ℕ) (d : Sight) → k < length seen' → (get_or seen' k d).0 ≤ suc k
  above order k d h = elim (cases_lt k (length seen)) [
    | inl before ↦ omega (arith, ap (λ (s : Sight). s.0) (inserted.kept k d before), round.above (shorter order) k d before)
    | inr last ↦
        let is = inserted.last k h last in
        let class : (get_or seen' k d).0 ≡ class_of old done = ap (λ (s : Sight). s.0) (ap (λ n. get_or seen' n d) is ∙ inserted.here d) in
        let fits = order done (length seen) (omega arith) (λ earlier less. round.bounded (shorter order) earlier less) in
        omega arith
  ]

  bounded : IsFirstSeen old (done + 1) → (state : ℕ) → state < done + 1 → class_of old state ≤ length seen'
  bounded order state h = elim (cases_eq state done) [
    | inl last ↦
        let class : (get_or seen' number (0, [])).0 ≡ class_of old done = ap (λ (s : Sight). s.0) (inserted.here (0, [])) in
        omega (arith, above order number (0, []) inserted.within, ap (class_of old) last, inserted.within)
    | inr before ↦ omega (arith, round.bounded (shorter order) state (omega arith), inserted.grows)
  ]

  pub round_live : IsRound table old (done + 1) seen' (new ++ suc number ∷ [])
  unfolding new'
  round_live = record {
    one_each = length_push new (suc number) ∙ ap (λ n. n + 1) round.one_each;
    few = omega (arith, round.few, inserted.few);
    dead = λ state h is. elim (cases_eq state done) [
      | inl last ↦ absurd (some (sym (ap (class_of old) last) ∙ is))
      | inr before ↦ let low : state < done = omega arith in kept state low ∙ round.dead state low is
    ];
    place = place;
    alive = λ state h live is. elim (cases_eq state done) [
      | inl last ↦ absurd (omega (arith, here_at state last))
      | inr before ↦ let low : state < done = omega arith in round.alive state low live (sym (kept state low) ∙ is)
    ];
    distinct = distinct;
    attained = attained;
    first_seen = first_seen;
    above = above;
    bounded = bounded;
  }

-- each state is done
module _ (table : Table) (old : List ℕ) (seen : List Sight) (new : List ℕ) (one_each : length old ≡ suc (length table.rows))
    (round : IsRound table old (suc (length table.rows)) seen new) where
  past : (classes : List ℕ) (state : ℕ) → length classes ≡ suc (length table.rows) → suc (length table.rows) ≤ state → class_of classes state ≡ 0
  past classes state all h = get_or_past classes state 0 (omega arith)

  -- the place of what is seen of a state
  numbered : (state : ℕ) → state ≤ length table.rows → class_of old state ≢ 0
      → (k : ℕ) × (class_of new state ≡ suc k) × (k < length seen) × ((d : Sight) → get_or seen k d ≡ sight table old state)
  numbered state h live = by (class_of new state) refl
    where
      by : (class : ℕ) → class_of new state ≡ class
          → (k : ℕ) × (class_of new state ≡ suc k) × (k < length seen) × ((d : Sight) → get_or seen k d ≡ sight table old state)
      by zero is = absurd (round.alive state (omega arith) live is)
      by (suc k) is = let at = round.place state k (omega arith) live is in (k, is, at.0, at.1)

  small : (state : ℕ) → class_of new state ≤ length table.rows
  small state = elim (cases_lt (length table.rows) state) [
    | inl beyond ↦ omega (arith, past new state round.one_each beyond)
    | inr within ↦ elim (cases_eq (class_of old state) 0) [
      | inl dead ↦ omega (arith, round.dead state (omega arith) dead)
      | inr live ↦ let at = numbered state within live in omega (arith, at.1, at.2, round.few)
    ]
  ]

  grows : IsFirstSeen old (suc (length table.rows)) → (state : ℕ) → class_of old state ≤ class_of new state
  grows order state = elim (cases_lt (length table.rows) state) [
    | inl beyond ↦ omega (arith, past old state one_each beyond)
    | inr within ↦ elim (cases_eq (class_of old state) 0) [
      | inl dead ↦ omega arith
      | inr live ↦
          let at = numbered state within live in
          let class : (get_or seen at.0 (0, [])).0 ≡ class_of old state = ap (λ (s : Sight). s.0) (at.3 (0, [])) in
          omega (arith, at.1, round.above order at.0 (0, []) at.2)
    ]
  ]

  pub round_all : IsRefined table old new
  round_all = record {
    one_each = round.one_each;
    small = small;
    dead = λ state is. elim (cases_lt (length table.rows) state) [
      | inl beyond ↦ past new state round.one_each beyond
      | inr within ↦ round.dead state (omega arith) is
    ];
    alive = λ state h live. round.alive state (omega arith) live;
    refines = λ p q within also live lives same.
        let one = numbered p within live in
        let two = numbered q also lives in
        let number : one.0 ≡ two.0 = omega (arith, one.1, two.1) in
        sym (one.3 (0, [])) ∙ ap (λ k. get_or seen k (0, [])) number ∙ two.3 (0, []);
    respects = λ p q within also live lives same.
        let one = numbered p within live in
        let two = numbered q also lives in
        let number = round.distinct one.0 two.0 (0, []) one.2 two.2 (one.3 (0, []) ∙ same ∙ sym (two.3 (0, []))) in
        one.1 ∙ ap suc number ∙ sym two.1;
    first_seen = round.first_seen;
    grows = grows;
  }

pub round_same : (table : Table) (old : List ℕ) (done done' : ℕ) (seen seen' : List Sight) (new new' : List ℕ)
    → done ≡ done' → seen ≡ seen' → new ≡ new' → IsRound table old done seen new → IsRound table old done' seen' new'
round_same table old done done' seen seen' new new' a b e round =
    let P : ℕ → Type 0 = λ n. IsRound table old n seen' new' in
    let Q : List Sight → Type 0 = λ s. IsRound table old done s new' in
    let R : List ℕ → Type 0 = λ l. IsRound table old done seen l in
    subst P a (subst Q b (subst R e round))

-- Moves turned round.
use Rattle.std.proofs.Common.{◌≡◌, ◌↔◌, ℕ, suc, ◌+◌, ◌-◌, ◌<◌, ◌≤◌, Bool, false, IsTrue, List, [], ◌∷◌, ◌++◌, length, get_or, set, take, replicate, sym, ap, ◌∙◌, subst, inl, inr, arith}
use Rattle.std.specs.List.{Contains}
use Rattle.std.proofs.lemmas.Bool.{cases_lt}
use Rattle.std.proofs.lemmas.List.Elements.{Contains-append_left, Contains-append_right, Contains-push_cases}
use Rattle.kb_fsa.specs.Table.{Moves}
use Rattle.kb_fsarat.specs.Reversal.{HaveAdded, TurnsOne, TurnsFirst, IsListed}
use Rattle.kb_fsarat.proofs.MoveLists.{Contains-nil, Contains-same, Contains-take_more, HaveAdded-none, HaveAdded-same, HaveAdded-then, HaveAdded-push, IsPushed}

-- ---- one row

pub turn_none : (rows : List Moves) (state : ℕ) (moves : Moves) → HaveAdded rows rows (TurnsOne state (take 0 moves))
turn_none rows state moves =
    HaveAdded-none rows (TurnsOne state (take 0 moves)) (λ place move turned. Contains-nil (move.0, suc place) turned.1)

pub turn_more : (before rows : List Moves) (state : ℕ) (moves : Moves) (i : ℕ) (row : Moves) (d : ℕ × ℕ) → i < length moves
    → 0 < (get_or moves i d).1 → (get_or moves i d).1 ≤ length rows → HaveAdded before rows (TurnsOne state (take i moves))
    → row ≡ get_or rows ((get_or moves i d).1 - 1) [] ++ ((get_or moves i d).0, state) ∷ []
    → HaveAdded before (set rows ((get_or moves i d).1 - 1) row) (TurnsOne state (take (i + 1) moves))
turn_more before rows state moves i row d within positive fits have is =
    let at = (get_or moves i d).1 - 1 in
    let pushed : ℕ × ℕ = ((get_or moves i d).0, state) in
    let P : Moves → Type 0 = λ r. HaveAdded before (set rows at r) (TurnsOne state (take (i + 1) moves)) in
    subst P (sym is)
    (HaveAdded-same before (set rows at (get_or rows at [] ++ pushed ∷ [])) _ (TurnsOne state (take (i + 1) moves))
    (HaveAdded-then before rows (set rows at (get_or rows at [] ++ pushed ∷ [])) (TurnsOne state (take i moves)) (IsPushed at pushed) have
    (HaveAdded-push rows at pushed (omega arith)))
    (λ place move. (
      λ has. elim has [
        | inl old ↦ (old.0, (Contains-take_more moves i d (move.0, suc place) within).1 (inl old.1))
        | inr new ↦ (
          ap (λ m. m.1) (sym new.1),
          (Contains-take_more moves i d (move.0, suc place) within).1
              (inr (pair_is (get_or moves i d) move.0 (suc place) (ap (λ m. m.0) new.1) (let here = new.0 in omega arith))),
        )
      ],
      λ has. elim ((Contains-take_more moves i d (move.0, suc place) within).0 has.1) [
        | inl old ↦ inl (has.0, old)
        | inr here ↦ inr (
          (let target : (get_or moves i d).1 ≡ suc place = ap (λ m. m.1) here in omega arith),
          pair_is pushed move.0 move.1 (ap (λ m. m.0) here) (sym has.0),
        )
      ],
    )))
  where
    pair_is : (e : ℕ × ℕ) (a b : ℕ) → e.0 ≡ a → e.1 ≡ b → e ≡ (a, b)
    pair_is e a b one two = ap (λ v. (v, e.1)) one ∙ ap (λ w. (a, w)) two

-- ---- all rows

pub turned_none : (count : ℕ) (rows : List Moves) → HaveAdded (replicate count []) (replicate count []) (TurnsFirst rows 0)
turned_none count rows = HaveAdded-none (replicate count []) (TurnsFirst rows 0) (λ place move first. absurd (omega (arith, first.is_first)))

pub turned_more : (before turned after : List Moves) (rows : List Moves) (place : ℕ) (row : Moves) → row ≡ get_or rows place []
    → HaveAdded before turned (TurnsFirst rows place) → HaveAdded turned after (TurnsOne (place + 1) row)
    → HaveAdded before after (TurnsFirst rows (place + 1))
turned_more before turned after rows place row is have more =
    HaveAdded-same before after _ (TurnsFirst rows (place + 1))
    (HaveAdded-then before turned after (TurnsFirst rows place) (TurnsOne (place + 1) row) have more)
    (λ at move. (
      λ has. elim has [
        | inl old ↦ record { source = old.source; is_first = let first = old.is_first in omega arith; turned = old.turned }
        | inr new ↦ record {
          source = place;
          is_first = omega arith;
          turned = ((let state = new.0 in omega arith), Contains-same row (get_or rows place []) (move.0, suc at) is new.1);
        }
      ],
      λ has. elim (cases_lt has.source place) [
        | inl old ↦ inl (record { source = has.source; is_first = old; turned = has.turned })
        | inr late ↦
            let last : has.source ≡ place = let first = has.is_first in omega arith in
            let state = has.turned.0 in
            inr (
              (omega arith),
              Contains-same (get_or rows has.source []) row (move.0, suc at) (ap (λ s. get_or rows s []) last ∙ sym is) has.turned.1,
            )
      ],
    ))

-- ---- the states that accept

pub listed_none : (accepting : List Bool) (states : List ℕ) → states ≡ [] → (state : ℕ) → Contains states state ↔ IsListed accepting 0 state
listed_none accepting states is state = (
  λ has. absurd (Contains-nil state (Contains-same states [] state is has)),
  λ listed. absurd (omega (arith, listed.is_first)),
)

later : {accepting : List Bool} {place state : ℕ} → IsListed accepting place state → IsListed accepting (place + 1) state
later listed = record {
  place = listed.place;
  is_first = let first = listed.is_first in omega arith;
  accepts = listed.accepts;
  numbered = listed.numbered;
}

earlier : {accepting : List Bool} {count place state : ℕ} (listed : IsListed accepting count state) → listed.place < place
    → IsListed accepting place state
earlier listed less = record { place = listed.place; is_first = less; accepts = listed.accepts; numbered = listed.numbered }

-- a state that accepts is listed
pub listed_more : (accepting : List Bool) (states more : List ℕ) (place : ℕ) → place < length accepting
    → ((state : ℕ) → Contains states state ↔ IsListed accepting place state) → IsTrue (get_or accepting place false)
    → more ≡ states ++ (place + 1) ∷ [] → (state : ℕ) → Contains more state ↔ IsListed accepting (place + 1) state
listed_more accepting states more place within listed accepts is state = (
  λ has. elim (Contains-push_cases states (place + 1) state (Contains-same more (states ++ (place + 1) ∷ []) state is has)) [
    | inl old ↦ later ((listed state).0 old)
    | inr new ↦ record { place = place; is_first = omega arith; accepts = accepts; numbered = omega arith }
  ],
  λ has. Contains-same (states ++ (place + 1) ∷ []) more state (sym is) (elim (cases_lt has.place place) [
    | inl old ↦ Contains-append_left states ((place + 1) ∷ []) state ((listed state).1 (earlier has old))
    | inr late ↦
        let numbered = has.numbered in let first = has.is_first in
        Contains-append_right states ((place + 1) ∷ []) state (0, omega arith, omega arith)
  ]),
)

-- and one that doesn't isn't
pub listed_same : (accepting : List Bool) (states : List ℕ) (place : ℕ)
    → ((state : ℕ) → Contains states state ↔ IsListed accepting place state) → get_or accepting place false ≡ false
    → (state : ℕ) → Contains states state ↔ IsListed accepting (place + 1) state
listed_same accepting states place listed rejects state = (
  λ has. later ((listed state).0 has),
  λ has. elim (cases_lt has.place place) [
    | inl old ↦ (listed state).1 (earlier has old)
    | inr late ↦
        let last : has.place ≡ place = let first = has.is_first in omega arith in
        let accepts = has.accepts in
        let same = ap (λ p. get_or accepting p false) last in
        absurd (let no : ⊥ = cc in no)
  ],
)

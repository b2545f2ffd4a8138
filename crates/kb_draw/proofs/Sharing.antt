-- How a worker goes on from one part that it draws to the next, and how what workers bring back is put together.
use Rattle.std.proofs.Common.{◌≡◌, ◌≢◌, ℕ, ◌+◌, ◌<◌, ◌⊎◌, true, cond, List, [], ◌∷◌, ◌++◌, length, map, Some, None, refl, sym, ◌∙◌, ap, subst, inl, inr, ⊎_elim, length-append, arith, ne_eqb}
use Rattle.std.specs.List.{All}
use Rattle.std.specs.Prelude.{Result, Ok, IfOk}
use Rattle.std.proofs.lemmas.Bool.{cases_eq}
use Rattle.std.proofs.lemmas.List.{length_push, map-id}
use Rattle.std.proofs.lemmas.List.Elements.{All-push, All-pop, Contains-append_left, Contains-append_right}
use Rattle.kb_word.specs.declared.memory.Memory.{Memory}
use Rattle.kb_draw.specs.Totals.{times, is_it}
use Rattle.kb_draw.specs.Seats.{IsSeatOf, IsNewSeatOf, Takes, nothing, one, last, numbers_of, times_drawn}
use Rattle.kb_draw.specs.Workers.{Drew, IsDrawnOf, AreAllDrawn, AreTaken, no_more, one_more}
use Rattle.kb_draw.specs.declared.counter.Bounds.{Bounds}
use Rattle.kb_draw.specs.declared.draw.Draw.{Draw}
use Rattle.kb_draw.specs.declared.draw.Seat.{Seat}
use Rattle.kb_draw.specs.declared.work.Drawn.{Drawn}
use Rattle.kb_draw.specs.declared.work.Worker.{Worker}
use Rattle.kb_draw.proofs.Sums.{total-append}

-- a number that is among one more is that one, or was among the others
among_one_more : (numbers : List ℕ) (number i : ℕ) → 0 < times i (numbers ++ number ∷ []) → (0 < times i numbers) ⊎ (i ≡ number)
among_one_more numbers number i some = ⊎_elim
    (λ (same : number ≡ i). inr (sym same))
    (λ (apart : number ≢ i).
    let other : is_it i number ≡ 0 = ap (λ b. cond b 1 0) (ne_eqb number i apart) in
    let all = total-append (is_it i) numbers (number ∷ []) in
    inl (omega (arith, some, other, all)))
    (cases_eq number i)

drew_one_more : (before after : Seat) (number i : ℕ) → numbers_of after ≡ numbers_of before ++ number ∷ [] → Drew after i → Drew before i ⊎ (i ≡ number)
drew_one_more before after number i more drew =
    let P : List ℕ → Type 0 = λ numbers. 0 < times i numbers in
    among_one_more (numbers_of before) number i (subst P more drew)

pub drawn_within : {bounds : Bounds} {before after : Seat} {number : ℕ} → Takes bounds before (Some number) after → number < bounds.end
drawn_within (one wet from within more still) = within

pub is_dry : {bounds : Bounds} {before after : Seat} → Takes bounds before None after → after.dry ≡ true
is_dry (nothing dry) = dry
is_dry (last wet late more dry) = dry

-- the parts that the seat drew are done in the share
abbrev pub HasDone : {Share : Type 0} → ℕ → (Share → ℕ → Type 0) → Seat → Share → Type 0
HasDone parts Done seat share = (part : ℕ) → part < parts → Drew seat part → Done share part

-- a seat that has drawn nothing
pub nothing_drawn : {Share : Type 0} (parts : ℕ) (Done : Share → ℕ → Type 0) (seat : Seat) (share : Share) → numbers_of seat ≡ [] → HasDone parts Done seat share
nothing_drawn parts Done seat share none = λ part within drew.
    let P : List ℕ → Type 0 = λ numbers. 0 < times part numbers in
    let some : 0 < 0 = subst P none drew in
    absurd (let no : ⊥ = omega (arith, some) in no)

-- a part that was taken into the share
pub after_part : {Share : Type 0} (parts : ℕ) (Done : Share → ℕ → Type 0) (share more_share : Share) {bounds : Bounds} {before after : Seat} {number : ℕ}
    → Takes bounds before (Some number) after → Done more_share number → ((other : ℕ) → Done share other → Done more_share other)
    → HasDone parts Done before share → HasDone parts Done after more_share
after_part parts Done share more_share {bounds} {before} {after} {number} (one wet from within more still) here earlier holds = λ part low drew. ⊎_elim
    (λ (was : Drew before part). earlier part (holds part low was))
    (λ (same : part ≡ number). subst (Done more_share) (sym same) here)
    (drew_one_more before after number part more drew)

-- no part is left
pub after_last : {Share : Type 0} (parts : ℕ) (Done : Share → ℕ → Type 0) (share : Share) {bounds : Bounds} {before after : Seat}
    → Takes bounds before None after → bounds.end ≡ parts → HasDone parts Done before share → HasDone parts Done after share
after_last parts Done share (nothing dry) all holds = holds
after_last parts Done share {bounds} {before} {after} (last {number} wet late more dry) all holds = λ part low drew. ⊎_elim
    (λ (was : Drew before part). holds part low was)
    (λ (same : part ≡ number). absurd (let no : ⊥ = omega (arith, low, same, late, all) in no))
    (drew_one_more before after number part more drew)

-- one share, in which all parts are done, one after another
pub one_more_part : {Share : Type 0} (Done : Share → ℕ → Type 0) (share more_share : Share) (number : ℕ)
    → Done more_share number → ((other : ℕ) → Done share other → Done more_share other)
    → ((part : ℕ) → part < number → Done share part) → (part : ℕ) → part < number + 1 → Done more_share part
one_more_part Done share more_share number here earlier holds part low = ⊎_elim
    (λ (same : part ≡ number). subst (Done more_share) (sym same) here)
    (λ (other : part ≢ number). earlier part (holds part (omega (arith, other, low))))
    (cases_eq part number)

-- a list that is longer by one worker
pub worker_more : (draw : Draw) (made : List Worker) (more : List Worker) (next : Worker) → more ≡ made ++ next ∷ []
    → All (λ (w : Worker). IsNewSeatOf draw w.seat) made → IsNewSeatOf draw next.seat → All (λ (w : Worker). IsNewSeatOf draw w.seat) more
worker_more draw made more next is all here =
    subst (All (λ (w : Worker). IsNewSeatOf draw w.seat)) (sym is) (All-push (λ (w : Worker). IsNewSeatOf draw w.seat) made next all here)

module _ {Share : Type 0} (draw : Draw) (parts : ℕ) (Sound : Share → Type 0) (Done : Share → ℕ → Type 0) where
  -- what no workers bring back
  pub none_drawn : AreAllDrawn draw parts Sound Done 0 [] []
  none_drawn = record {
    count = refl;
    as_many = refl;
    each = λ i x within. absurd (let no : ⊥ = omega (arith, within) in no);
    dry = λ i x within. absurd (let no : ⊥ = omega (arith, within) in no);
    sound = λ i x within. absurd (let no : ⊥ = omega (arith, within) in no);
    done = λ part low drew. absurd (let no : ⊥ = omega (arith, drew) in no);
  }

  -- what one more worker brings back
  pub one_more_drawn : (workers : ℕ) (seats : List Seat) (shares : List Share) (own : Drawn Share)
      → AreAllDrawn draw parts Sound Done workers seats shares → IsDrawnOf draw parts Sound Done own
      → AreAllDrawn draw parts Sound Done (workers + 1) (seats ++ own.seat ∷ []) (shares ++ own.share ∷ [])
  one_more_drawn workers seats shares own all mine = record {
    count = let was = all.count in let longer = length-append seats (own.seat ∷ []) in omega (arith, was, longer);
    as_many = let was = all.as_many in let longer = length-append shares (own.share ∷ []) in omega (arith, was, longer);
    each = All-push (IsSeatOf draw) seats own.seat all.each mine.seat;
    dry = All-push (λ (seat : Seat). seat.dry ≡ true) seats own.seat all.dry mine.dry;
    sound = All-push Sound shares own.share all.sound mine.sound;
    done = λ part low some.
        let sum = total-append (λ (seat : Seat). times part (numbers_of seat)) seats (own.seat ∷ []) in
        ⊎_elim
        (λ (zero : times_drawn part seats ≡ 0). record {
          share = own.share;
          among = Contains-append_right shares (own.share ∷ []) own.share (0, omega arith, refl);
          did = mine.done part low (omega (arith, zero, sum, some));
        })
        (λ (was : times_drawn part seats ≢ 0).
        let before = all.done part low (omega (arith, was)) in
        record {
          share = before.share;
          among = Contains-append_left shares (own.share ∷ []) before.share before.among;
          did = before.did;
        })
        (cases_eq (times_drawn part seats) 0);
  }

  -- what all workers bring back
  pub all_taken : {drawn : List (Result (Drawn Share) Memory)} {seats : List Seat} {shares : List Share} → AreTaken drawn seats shares
      → All (λ one. IfOk one (IsDrawnOf draw parts Sound Done)) drawn → AreAllDrawn draw parts Sound Done (length drawn) seats shares
  all_taken no_more each = none_drawn
  all_taken (one_more {drawn} {seats} {shares} own before) each =
      let P : Result (Drawn Share) Memory → Type 0 = λ one. IfOk one (IsDrawnOf draw parts Sound Done) in
      let split = All-pop P (drawn ++ Ok own ∷ []) drawn (Some (Ok own)) refl each in
      rw (length_push drawn (Ok own)) (one_more_drawn (length drawn) seats shares own (all_taken before split.0) split.1)

-- one more is taken
pub takes_more : {Share : Type 0} (drawn : List (Result (Drawn Share) Memory)) (answer : Result (Drawn Share) Memory) (own : Drawn Share)
    (seats more_seats : List Seat) (shares more_shares : List Share) → answer ≡ Ok own → more_seats ≡ seats ++ own.seat ∷ []
    → more_shares ≡ shares ++ own.share ∷ [] → AreTaken drawn seats shares → AreTaken (drawn ++ answer ∷ []) more_seats more_shares
takes_more drawn answer own seats more_seats shares more_shares is seat share before = rw (is, seat, share) (one_more own before)

-- where all were yielded, all are taken
pub taken_all : {Share : Type 0} (yielded drawn : List (Result (Drawn Share) Memory)) (seats : List Seat) (shares : List Share)
    → map (λ x. x) yielded ≡ drawn → AreTaken yielded seats shares → AreTaken drawn seats shares
taken_all yielded drawn seats shares same taken =
    subst (λ all. AreTaken all seats shares) (sym (map-id yielded) ∙ same) taken

use Rattle.std.proofs.Common.{◌≡◌, ◌<◌, ◌+◌, ◌∷◌, ◌++◌, [], ◌⊎◌, ℕ, length, get_or, take, Contains, sym, ap, ◌∙◌, subst, inl, inr, arith}
use Rattle.std.proofs.lemmas.List.{take_more, take_all}
use Rattle.std.proofs.lemmas.List.Elements.{Contains-push, Contains-append_left, Contains-push_cases}
use Rattle.kb_fsa.specs.Graphs.{source, end}
use Rattle.kb_fsamin.specs.Rounds.{class_of}
use Rattle.kb_fsamin.specs.Partitions.{AreMembers}
use Rattle.kb_fsamin.proofs.splitting.leaving.Goals as goal
use Rattle.kb_fsamin.proofs.splitting.leaving.Goals.{then-start-to-ne0+in_ok-push, else-start-to-ne0}

pub loop-number-init : goal.loop-number-init
loop-number-init c = record {
  sound = λ state found. absurd (omega (arith, found.1, ap length c.new-listed.ensures.items));
  complete = λ move found. absurd (omega (arith, found.1));
}

pub loop-number-preserved : goal.loop-number-preserved
loop-number-preserved c =
    let edges = c.args.edges.now in
    let start = c.args.start.now in
    let of = c.args.cords.now.of.items in
    let moves = c.members-number-items.result.now in
    let place = c.loop-number.number-index in
    let number = get_or moves place 0 in
    let listed = c.loop-number.listed.items in
    let members : AreMembers of c.args.cord moves = c.members-number-items.ensures in
    let member = members.sound place 0 (omega arith) in
    let within : number < length edges = omega (arith, member.0, c.requires.one_each) in
    let cases : (move : ℕ) → Contains (take (place + 1) moves) move → Contains (take place moves) move ⊎ (number ≡ move) =
    λ move found. Contains-push_cases (take place moves) number move (subst (λ l. Contains l move) (take_more moves place 0 (omega arith)) found) in
    elim c.if-start-to-ne0.branch [
      | then-start-to-ne0+in_ok-push w ↦
          let listed' : c.if-start-to-ne0.listed.items ≡ listed ++ end edges number ∷ [] = ap (λ v. v.items) w.listed-is ∙ w.in_ok-push.ensures.items in
          record {
            sound = λ state found.
                elim (Contains-push_cases listed (end edges number) state (subst (λ l. Contains l state) listed' found)) [
                  | inl early ↦ c.loop-number.invariant.sound state early
                  | inr here ↦ record { move = number; within = within; of_cord = member.1; live = w.if-start-to-ne0.true; state_is = here }
                ];
            complete = λ move found live.
                subst (λ l. Contains l (end edges move)) (sym listed')
                (elim (cases move found) [
                  | inl early ↦ Contains-append_left listed (end edges number ∷ []) (end edges move) (c.loop-number.invariant.complete move early live)
                  | inr here ↦
                      let P : ℕ → Type 0 = λ m. Contains (listed ++ end edges number ∷ []) (end edges m) in
                      subst P here (Contains-push listed (end edges number))
                ]);
          }
      | else-start-to-ne0 w ↦
          let listed' : c.if-start-to-ne0.listed.items ≡ listed = ap (λ v. v.items) w.listed-is in
          record {
            sound = λ state found. c.loop-number.invariant.sound state (subst (λ l. Contains l state) listed' found);
            complete = λ move found live.
                subst (λ l. Contains l (end edges move)) (sym listed')
                (elim (cases move found) [
                  | inl early ↦ c.loop-number.invariant.complete move early live
                  | inr here ↦ absurd (live (ap (λ m. class_of start (source edges m)) (sym here) ∙ w.if-start-to-ne0.false))
                ]);
          }
    ]

pub returns : goal.returns
returns c =
    let edges = c.args.edges.now in
    let of = c.args.cords.now.of.items in
    let moves = c.members-number-items.result.now in
    let members : AreMembers of c.args.cord moves = c.members-number-items.ensures in
    record {
      sound = c.loop-number.invariant.sound;
      complete = λ state leaving.
          subst (Contains c.loop-number.listed.items) leaving.state_is
          (c.loop-number.invariant.complete leaving.move
          (subst (λ l. Contains l leaving.move) (sym (take_all c.loop-number.number-index moves (omega arith)))
          (members.complete leaving.move (omega (arith, leaving.within, c.requires.one_each)) leaving.of_cord))
          leaving.live);
    }

use Rattle.std.proofs.Common.{ℕ, List, get_or, sym, subst, arith}
use Rattle.kb_trie.specs.Ends.{IsEnd}
use Rattle.kb_trie.proofs.Ending.{end_same}
use Rattle.kb_trie.proofs.ends.Ends.make_room.Goals as goal

pub returns-in_err-make_room-clause-ends : goal.returns-in_err-make_room-clause-ends
returns-in_err-make_room-clause-ends c words has =
    let old : List ℕ = c.args.self.now.numbers.items in
    let ends : List ℕ = c.args.self.now.ends.items in
    record {
      number_room = omega (arith, has.number_room, c.make_room.ensures.longer);
      end_room = has.end_room;
      each = λ state within.
          end_same words old c.make_room.new.numbers.items state (get_or ends state 0) c.make_room.ensures.same (has.each state within);
    }

pub returns-clause-ends : goal.returns-clause-ends
returns-clause-ends c words has =
    let old : List ℕ = c.args.self.now.numbers.items in
    let new : List ℕ = c.make_room.new.numbers.items in
    let ends : List ℕ = c.args.self.now.ends.items in
    record {
      number_room = omega (arith, has.number_room, c.make_room.ensures.longer);
      end_room = omega (arith, has.end_room, c.make_room-2.ensures.longer);
      each = λ state within.
          let E : ℕ → Type 0 = λ e. IsEnd words c.make_room.new.numbers.items state e in
          subst E (sym (c.make_room-2.ensures.same state))
          (end_same words old new state (get_or ends state 0) c.make_room.ensures.same (has.each state within));
    }

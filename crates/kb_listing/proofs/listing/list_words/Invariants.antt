use Rattle.std.proofs.Common.{◌≡◌, ◌-◌, ◌≤◌, IsTrue}
use Rattle.kb_io.specs.States.{SinkGoesOn}
use Rattle.kb_listing.specs.Listed.{Listed, HasLetters, over, next_rank, word_count}
use Rattle.kb_listing.proofs.listing.list_words.Given as goal

-- the words given so far are listed
abbrev pub invariant-loop-pending : goal.invariant-loop-pending
invariant-loop-pending g l = record {
  listed : IsTrue (g.O.Sink.state l.fn.out).told
      → Listed l.names l.words (g.O.Sink.state l.fn.out).written (g.O.Sink.state l.out).written l.pending.items;
  is : l.words ≡ over l.fsa l.min l.max l.words.given;
  letters : HasLetters l.words;
  within : next_rank l.words.given ≤ word_count l.max;
  goes_on : SinkGoesOn (g.O.Sink.state l.fn.out) (g.O.Sink.state l.out);
}

abbrev pub decreases-loop-pending : goal.decreases-loop-pending
decreases-loop-pending g l = word_count l.max - next_rank l.words.given

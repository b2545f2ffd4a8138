-- The tracks of a pair of words. Each stands at a state of the acceptor, or at 0 once its word has ended and is padded.
use Rattle.std.specs.Prelude.{◌≡◌, ◌≢◌, ℕ, zero, suc, ◌+◌, ◌<◌, ◌≤◌, Bool, true, if◌then◌else◌, List, [], ◌∷◌, ◌++◌, length}
use Rattle.kb_fsa.specs.Table.{Table, Moves, AcceptsFrom, is_accepting, moves_of, after}

-- whether the word of a track may end: the acceptor accepts it, or it has ended already
abbrev pub may_end : Table → ℕ → Bool
may_end table zero = true
may_end table (suc place) = is_accepting table (suc place)

-- the moves of a track: those of the acceptor's state, and last, where the word may end, the padding, which leads to 0
abbrev pub track_moves : Table → ℕ → ℕ → Moves
track_moves table n track =
    moves_of table track ++ (if may_end table track then (n + 1, 0) ∷ [] else [])

-- Where the track of a word stands, that began at a state and is read beside the other word, once both are read: at the
-- acceptor's state after the word, or at 0 where it is the shorter one, which then is accepted.
pub data IsTrackAfter (table : Table) (state : ℕ) (word other : List ℕ) : ℕ → Type 0 where
  at_state : {track : ℕ} → length other ≤ length word → after table state word ≡ track → track ≢ 0
      → IsTrackAfter table state word other track
  has_ended : length word < length other → AcceptsFrom table state word
      → IsTrackAfter table state word other 0

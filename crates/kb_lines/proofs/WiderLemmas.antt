-- What is answered by some answers is answered by all that are among others.
use Rattle.std.proofs.Common.{ℕ, List, [], ◌∷◌}
use Rattle.kb_word.specs.Presentations.{PresentationParts}
use Rattle.kb_record.specs.declared.error.WordError.{WordError}
use Rattle.kb_lines.specs.WordLines.{LineGives, blank, word, LinesGive}
use Rattle.kb_lines.specs.Streams.{Streams}
use Rattle.kb_lines.specs.Answered.{AllAnswered, EndedAnswered, FrontAnswered, RefusedAt, StopMeans, Stops}
use Rattle.kb_lines.specs.declared.stop.Stop.{Stop}
use Rattle.kb_lines.specs.declared.stop.Stop.TheVariants.{Refused, TooLong, Input, Output, Memory}

module _ (parts : PresentationParts) (Answers Others : List ℕ → List ℕ → Type 0) (among : (w m : List ℕ) → Answers w m → Others w m) where
  line-wider : {line given : List ℕ} → LineGives parts Answers line given → LineGives parts Others line given
  line-wider (blank none) = blank none
  line-wider (word some meaning answer) = word some meaning (among _ _ answer)

  lines-wider : (lines : List (List ℕ)) (given : List ℕ) → LinesGive parts Answers lines given → LinesGive parts Others lines given
  lines-wider [] given none = none
  lines-wider (line ∷ lines) given (first, rest, gives, rest_gives, whole) =
      (first, rest, line-wider gives, lines-wider lines rest rest_gives, whole)

  pub answered-wider : {before after : Streams} → AllAnswered parts Answers before after → AllAnswered parts Others before after
  answered-wider all = record {
    ended = all.ended;
    short = all.short;
    lines = all.lines;
    last = all.last;
    cuts = all.cuts;
    given = all.given;
    answered = lines-wider _ all.given all.answered;
    sent = all.sent;
  }

  ended-wider : {bytes : List ℕ} {before after : Streams} → EndedAnswered parts Answers bytes before after → EndedAnswered parts Others bytes before after
  ended-wider all = record {
    lines = all.lines;
    rest = all.rest;
    cuts = all.cuts;
    given = all.given;
    answered = lines-wider all.lines all.given all.answered;
    sent = all.sent;
  }

  front-wider : {before after : Streams} → FrontAnswered parts Answers before after → FrontAnswered parts Others before after
  front-wider front = record {
    lines = front.lines;
    each = front.each;
    rest = front.rest;
    at_front = front.at_front;
    given = front.given;
    answered = lines-wider front.lines front.given front.answered;
    sent = front.sent;
    unsent = front.unsent;
    front = front.front;
    sends = front.sends;
  }

  refused-wider : {number : ℕ} {fault : WordError} {taken : List ℕ} {before after : Streams}
      → RefusedAt parts Answers number fault taken before after → RefusedAt parts Others number fault taken before after
  refused-wider at = record {
    refused = record {
      lines = at.refused.lines;
      line = at.refused.line;
      behind = at.refused.behind;
      whole = at.refused.whole;
      each = at.refused.each;
      one = at.refused.one;
      ends = at.refused.ends;
      counted = at.refused.counted;
      given = at.refused.given;
      answered = lines-wider at.refused.lines at.refused.given at.refused.answered;
      faulty = at.refused.faulty;
    };
    seen = at.seen;
    sent = at.sent;
  }

  means-wider : (taken : List ℕ) (before after : Streams) (stop : Stop) → StopMeans parts Answers taken before after stop
      → StopMeans parts Others taken before after stop
  means-wider taken before after (Refused number fault) means = refused-wider means
  means-wider taken before after TooLong means = (means.0, ended-wider means.1)
  means-wider taken before after Input means = (means.0, ended-wider means.1)
  means-wider taken before after Output means = front-wider means
  means-wider taken before after Memory means = front-wider means

  pub stops-wider : {before after : Streams} {stop : Stop} → Stops parts Answers before after stop → Stops parts Others before after stop
  stops-wider {before} {after} {stop} stops = record {
    taken = stops.taken;
    takes = stops.takes;
    means = means-wider stops.taken before after stop stops.means;
  }

-- What connections moved: the counters, their sums and their text.
use Rattle.std.specs.Prelude.{ℕ, ◌+◌, ◌%◌, ◌^◌, List, ◌++◌, codes}
use Rattle.std.specs.Fmt.{decimal}
use Rattle.cb_control.specs.declared.moved.Moved.{Moved}

-- nothing was moved
abbrev pub nothing : Moved
nothing = record {
  messages = 0;
  payload = 0;
  sent = 0;
  written = 0;
  full = 0;
  compact = 0;
  completed = 0;
  fallback = 0;
  saved = 0;
}

-- a sum that wraps at 2^64
abbrev pub wrapped : ℕ → ℕ → ℕ
wrapped a b = (a + b) % 2 ^ 64

-- what two moved
abbrev pub both : Moved → Moved → Moved
both a b =
    record {
      messages = wrapped a.messages b.messages;
      payload = wrapped a.payload b.payload;
      sent = wrapped a.sent b.sent;
      written = wrapped a.written b.written;
      full = wrapped a.full b.full;
      compact = wrapped a.compact b.compact;
      completed = wrapped a.completed b.completed;
      fallback = wrapped a.fallback b.fallback;
      saved = wrapped a.saved b.saved;
    }

-- what connections moved: what came in and went out, and how blocks came
abbrev pub moved_text : Moved → List ℕ
moved_text moved =
    (codes "in "
    ++ (decimal moved.messages
    ++ (codes " messages "
    ++ (decimal moved.payload
    ++ (codes " payload bytes out " ++ (decimal moved.sent ++ codes " messages "))))))
    ++ (decimal moved.written
    ++ (codes " bytes blocks full "
    ++ (decimal moved.full ++ (codes " compact " ++ (decimal moved.compact ++ codes " ")))))
    ++ (codes "completed "
    ++ (decimal moved.completed
    ++ (codes " fallback "
    ++ (decimal moved.fallback
    ++ (codes " saved " ++ (decimal moved.saved ++ codes " bytes"))))))

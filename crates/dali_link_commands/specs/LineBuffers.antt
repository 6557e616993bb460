-- The bytes that are kept of the line that is read.
use Rattle.std.specs.Prelude.{◌≡◌, ◌<◌, ℕ, List, MatchBool, length}
use Rattle.dali_link_commands.specs.declared.stream.line_buffer.LineBuffer.{LineBuffer}
use Rattle.dali_link_commands.specs.StreamLines.{line_limit, is_blank}

-- it is that of a line of which these bytes were read: it has them all, or they are more than a line may have
pub record Holds (buffer : LineBuffer) (line : List ℕ) : Type 0 where
  pub bytes : MatchBool buffer.is_long (line_limit < length line) (buffer.bytes.items ≡ line)
  pub blank : buffer.is_blank ≡ is_blank line

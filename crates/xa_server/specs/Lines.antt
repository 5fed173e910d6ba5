-- Lines that are read and written.
use Rattle.std.specs.Prelude.{◌≡◌, ◌⊎◌, ◌≤◌, ◌<◌, ◌==◌, ◌&&◌, ℕ, Bool, true, false, not, if◌then◌else◌, nat_le, List, [], ◌∷◌, ◌++◌, codes, length, Option, Some, None}
use Rattle.std.specs.Io.KnownBytes.{Consumes, IsAtEnd, Keeps}
use Rattle.std.specs.List.{list_any, repeat, slice_split}
use Rattle.std.specs.Str.{is_utf8}
use Rattle.xa_server.specs.declared.lines.LineReply.{LineReply}
use Rattle.xa_server.specs.declared.lines.TheConstants.{LINE_LIMIT}
use Rattle.xa_requests.specs.Requests.{request_of}
use Rattle.xa_requests.specs.Responses.{response_text}
use Rattle.xa_requests.specs.declared.request.Request.{Request}
use Rattle.xa_requests.specs.declared.response.Response.{Response}

-- ** reading

-- a byte was read, or the input is at its end
abbrev pub ReadsOne : (old new : Option (List ℕ)) → Option ℕ → Type 0
ReadsOne old new None = Keeps old new × IsAtEnd new
ReadsOne old new (Some b) = Consumes old new (b ∷ [])

-- a line without line feeds is kept whole if it is short enough, and else more of it than a line may have
pub record IsKeptOf (line kept : List ℕ) : Type 0 where
  pub short : length line ≤ LINE_LIMIT → kept ≡ line
  pub long : LINE_LIMIT < length line → LINE_LIMIT < length kept

-- one more byte is kept, unless there are too many
abbrev pub KeepsShort : ℕ → (old new : List ℕ) → Type 0
KeepsShort b old new = new ≡ (if nat_le (length old) LINE_LIMIT then old ++ b ∷ [] else old)

-- it has no line feed
abbrev pub IsPlain : List ℕ → Type 0
IsPlain bytes = list_any (λ b. b == 10) bytes ≡ false

-- a line with the line feed that ended it, if one did
abbrev pub with_end : List ℕ → (is_ended : Bool) → List ℕ
with_end line true = line ++ 10 ∷ []
with_end line false = line

-- a line was read, up to its line feed or to the end of the input
pub record ReadsLine (old new : Option (List ℕ)) (kept : List ℕ) (is_ended : Bool) : Type 0 where
  pub line : List ℕ
  pub plain : IsPlain line
  pub keeps : IsKeptOf line kept
  pub consumed : Consumes old new (with_end line is_ended)
  pub end : is_ended ≡ false → IsAtEnd new

-- a beginning of a line was read, and not its line feed; or nothing was
pub record ReadsBeginning (old new : Option (List ℕ)) : Type 0 where
  pub begun : List ℕ
  pub plain : IsPlain begun
  pub consumed : Consumes old new begun

-- nothing was left to read
abbrev pub is_nothing : (kept : List ℕ) → (is_ended : Bool) → Bool
is_nothing [] is_ended = not is_ended
is_nothing (b ∷ bs) is_ended = false

-- a line, cut at each `;`
abbrev pub cut_at_marks : List ℕ → List (List ℕ)
cut_at_marks line = slice_split (λ c. c == 59) line

-- the requests of a line, each as a line of its own: a `;` stands between two. A line that is too long isn't cut
abbrev pub requests_in : List ℕ → List (List ℕ)
requests_in line = if nat_le (length line) LINE_LIMIT then cut_at_marks line else line ∷ []

-- what a line of one request asks for: nothing, where it is too long or no text
abbrev pub asked_in : List ℕ → Option Request
asked_in line = if nat_le (length line) LINE_LIMIT && is_utf8 line then request_of line else None

-- the lines of a text: each ends with a line feed, which the last may lack
abbrev pub with_first : ℕ → List (List ℕ) → List (List ℕ)
with_first b [] = (b ∷ []) ∷ []
with_first b (line ∷ lines) = (b ∷ line) ∷ lines

abbrev pub text_lines : List ℕ → List (List ℕ)
text_lines [] = []
text_lines (b ∷ bs) = if b == 10 then [] ∷ text_lines bs else with_first b (text_lines bs)

-- another line begins after what was read
abbrev pub IsWholeLines : List ℕ → Type 0
IsWholeLines read = (more : List ℕ) → text_lines (read ++ more) ≡ text_lines read ++ text_lines more

-- whole lines were read: another one begins after them, or nothing is left
pub record ReadsWholeLines (unread left : Option (List ℕ)) (read : List ℕ) : Type 0 where
  pub consumed : Consumes unread left read
  pub whole : IsWholeLines read ⊎ IsAtEnd left

-- ** writing

-- a `;` for each request that was done before the one that is replied
abbrev pub marks : (before : ℕ) → List ℕ
marks before = repeat before (codes ";")

abbrev pub reply_line : LineReply → List ℕ
reply_line told = marks told.before ++ response_text told.reply ++ codes "\n"

-- the reply to a line of one request
abbrev pub lone_reply : Response → LineReply
lone_reply reply = record { before = 0; reply = reply }

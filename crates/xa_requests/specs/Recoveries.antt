-- The requests of recovery, of crashes, and about the session.
use Rattle.std.specs.Prelude.{ℕ, if◌then◌else◌, List, [], ◌∷◌, codes, Option, Some, None}
use Rattle.std.specs.Str.{bytes_eq}
use Rattle.xa_files.specs.Fields.{◌>>=◌}
use Rattle.xa_files.specs.Numbers.{index_of}
use Rattle.xa_requests.specs.Words.{Word}
use Rattle.xa_requests.specs.declared.request.Request.{Request}
use Rattle.xa_requests.specs.declared.request.Request.TheVariants as requests

-- R
abbrev pub only_index : List Word → Option ℕ
only_index (r ∷ []) = index_of r
only_index _ = None

-- T R
unfoldable pub line_in_words : List Word → Option (ℕ × ℕ)
line_in_words (t ∷ r ∷ []) = do
  thread ← index_of t
  rm ← index_of r
  Some (thread, rm)
line_in_words _ = None

-- resolve R
abbrev pub resolve_request : List Word → Option Request
resolve_request words = only_index words >>= λ rm. Some (requests.Resolve rm)

-- resolve-open R
abbrev pub resolve_open_request : List Word → Option Request
resolve_open_request words = only_index words >>= λ rm. Some (requests.ResolveOpen rm)

-- owed R
abbrev pub owed_request : List Word → Option Request
owed_request words = only_index words >>= λ rm. Some (requests.Owed rm)

-- waiting T R
abbrev pub waiting_request : List Word → Option Request
waiting_request words = line_in_words words >>= λ line. Some (requests.Waiting line.0 line.1)

-- crash line T R, crash rm R
abbrev pub crash_request : List Word → Option Request
crash_request [] = None
crash_request (part ∷ words) =
    if bytes_eq part (codes "line") then (line_in_words words >>= λ line. Some (requests.CrashLine line.0 line.1))
    else if bytes_eq part (codes "rm") then (only_index words >>= λ rm. Some (requests.CrashRm rm))
    else None

-- a request of one word
abbrev pub bare_request : Request → List Word → Option Request
bare_request request [] = Some request
bare_request request _ = None

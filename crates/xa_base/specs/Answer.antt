-- What an answer returns.
use Rattle.std.specs.Prelude.{ℤ, pos, length, map}
use Rattle.xa_base.specs.Code.{code_number}
use Rattle.xa_base.specs.declared.answer.Answer.{Answer}
use Rattle.xa_base.specs.declared.answer.Answer.TheVariants.{Ret, Page}

-- the number of a code, or the length of a page
abbrev pub answer_number : {X : Type 0} → Answer X → ℤ
answer_number (Ret code) = code_number code
answer_number (Page xids) = pos (length xids)

-- the same answer, with what f gives on its page
abbrev pub map_answer : {X Y : Type 0} → (X → Y) → Answer X → Answer Y
map_answer f (Ret code) = Ret code
map_answer f (Page xs) = Page (map f xs)

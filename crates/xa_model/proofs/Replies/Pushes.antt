-- One event more at the end of a list of events.
use Rattle.std.proofs.Common.{◌≡◌, List, [], ◌∷◌, ◌++◌, refl, sym, ap, ◌∙◌, subst}
use Rattle.std.specs.Prelude.{map}
use Rattle.xa_base.specs.declared.reply.Event.{Event}
use Rattle.xa_model.specs.Promises.Agreement.{followed_by, IsMoment}
use Rattle.xa_model.specs.Replies.Allowed.{Allowed, with_steps, AllAllowed}
use Rattle.xa_model.specs.Replies.History.{read, happening_of, history, IsAllowedEvent, AreAllowed}
use Rattle.xa_model.specs.Replies.Steps.{Step, Reply, happened}
use Rattle.xa_model.specs.Trace.{Happening, Origin, Trace, Trace.From, Trace.Then}

pub with_steps_append : (tr : Trace) (xs ys : List (Step × Reply)) → with_steps tr (xs ++ ys) ≡ with_steps (with_steps tr xs) ys
with_steps_append tr [] ys = refl
with_steps_append tr (x ∷ xs) ys = with_steps_append (Then tr (happened x.0 x.1)) xs ys

read_append : (xs ys : List Event) → map read (xs ++ ys) ≡ map read xs ++ map read ys
read_append [] ys = refl
read_append (x ∷ xs) ys = ap (λ z. read x ∷ z) (read_append xs ys)

history_append : (o : Origin) (xs ys : List Event) → history o (xs ++ ys) ≡ with_steps (history o xs) (map read ys)
history_append o xs ys = ap (with_steps (From o)) (read_append xs ys) ∙ with_steps_append (From o) (map read xs) (map read ys)

pub history_push : (o : Origin) (xs : List Event) (e : Event) → history o (xs ++ e ∷ []) ≡ Then (history o xs) (happening_of e)
history_push o xs e = history_append o xs (e ∷ [])

all_push : (tr : Trace) (xs : List (Step × Reply)) (x : Step × Reply) → AllAllowed tr xs → Allowed (with_steps tr xs) x.0 x.1 → AllAllowed tr (xs ++ x ∷ [])
all_push tr [] x a d = (d, tt)
all_push tr (y ∷ xs) x a d = (a.0, all_push (Then tr (happened y.0 y.1)) xs x a.1 d)

pub allowed_push : (o : Origin) (xs : List Event) (e : Event) → AreAllowed o xs → IsAllowedEvent (history o xs) e → AreAllowed o (xs ++ e ∷ [])
allowed_push o xs e a d = subst (AllAllowed (From o)) (sym (read_append xs (e ∷ []))) (all_push (From o) (map read xs) (read e) a d)

pub all_before : (tr : Trace) (xs ys : List (Step × Reply)) → AllAllowed tr (xs ++ ys) → AllAllowed tr xs
all_before tr [] ys a = tt
all_before tr (x ∷ xs) ys a = (a.0, all_before (Then tr (happened x.0 x.1)) xs ys a.1)

pub allowed_before : (o : Origin) (xs ys : List Event) → AreAllowed o (xs ++ ys) → AreAllowed o xs
allowed_before o xs ys a = all_before (From o) (map read xs) (map read ys) (subst (AllAllowed (From o)) (read_append xs ys) a)

-- what happened in these events
happenings : List Event → List Happening
happenings [] = []
happenings (e ∷ es) = happening_of e ∷ happenings es

after_happenings : (tr : Trace) (es : List Event) → followed_by tr (happenings es) ≡ with_steps tr (map read es)
unfolding happenings
after_happenings tr [] = refl
after_happenings tr (e ∷ es) = after_happenings (Then tr (happening_of e)) es

pub moment : (o : Origin) (xs ys : List Event) (e : Event) → IsMoment (history o xs) (happening_of e) (history o (xs ++ e ∷ ys))
moment o xs ys e = (happenings ys, after_happenings (Then (history o xs) (happening_of e)) ys ∙ sym (history_append o xs (e ∷ ys)))

use Rattle.std.proofs.Common.{◌≡◌, sym, ap, ◌∙◌, subst}
use Rattle.xa_base.specs.declared.answer.Answer.TheVariants.{Ret}
use Rattle.xa_model.specs.Facts.{record_of}
use Rattle.xa_base.specs.Call.{map_call}
use Rattle.xa_base.specs.Answer.{map_answer}
use Rattle.xa_base.proofs.Options.{on_ok}
use Rattle.xa_model.specs.Replies.History.{name_of}
use Rattle.xa_model.specs.Trace.{Call, Answer, Fault.InHear, Happening.Heard, line}
use Rattle.xa_tm.specs.Book.{after, doubt_of}
use Rattle.xa_tm.specs.LedgerBook.{as_book}
use Rattle.xa_tm.specs.Calls.{AsksFor, FailsBy}
use Rattle.xa_tm.specs.News.{recording}
use Rattle.xa_tm.specs.BookAndLog.{changed_by}
use Rattle.xa_tm.specs.declared.news.News.{News}
use Rattle.xa_tm.proofs.History.News.{recorded_by_news}
use Rattle.xa_tm.proofs.History.HeardAnswers.{call_kind, call_on, if_err, quiet_code}
use Rattle.xa_tm.proofs.manager.Manager.hear.Goals as goal

pub returns-in-Some-clause-ok : goal.returns-in-Some-clause-ok
returns-in-Some-clause-ok g c =
    let k = as_book c.args.self.now.ledger in
    let l = line c.args.thread c.args.rm in
    let asked = map_call name_of c.args.call.now in
    let given : map_answer name_of c.args.answer.now ≡ Ret c.in-Ret.code = ap (map_answer name_of) c.in-Ret.is in
    on_ok c.hear_news.result _ _ (λ heard call is.
    let on = call_on asked c.in-Some.b call (sym c.in-Some.ensures) is in
    heard l on.kind c.in-Ret.code (c.of.ensures ∙ on.news c.in-Ret.code)
    ∙ ap (λ x. after k (Heard l x (Ret c.in-Ret.code))) on.call ∙ ap (λ a. after k (Heard l call a)) (sym given)) c.hear_news.ensures.ok

pub returns-in-Some-clause-err : goal.returns-in-Some-clause-err
returns-in-Some-clause-err g c = λ up.
    let k = as_book c.args.self.now.ledger in
    let n = as_book c.hear_news.new.self.ledger in
    let l = line c.args.thread c.args.rm in
    let asked = map_call name_of c.args.call.now in
    let given : map_answer name_of c.args.answer.now ≡ Ret c.in-Ret.code = ap (map_answer name_of) c.in-Ret.is in
    if_err c.hear_news.result _ _ (λ e failed call is.
    let on = call_on asked c.in-Some.b call (sym c.in-Some.ensures) is in
    subst (λ (a : Answer). FailsBy (doubt_of (record_of call a)) (InHear l) k n e) (sym given)
    (subst (λ (x : Call). FailsBy (doubt_of (record_of x (Ret c.in-Ret.code))) (InHear l) k n e) on.call
    (failed l on.kind c.in-Ret.code (c.of.ensures ∙ on.news c.in-Ret.code)))) c.hear_news.ensures.err

pub returns-in-Some-clause-tied : goal.returns-in-Some-clause-tied
returns-in-Some-clause-tied g c = λ near order honest.
    let how = call_kind (map_call name_of c.args.call.now) c.in-Some.b (sym c.in-Some.ensures) in
    c.hear_news.ensures.tied near order honest (line c.args.thread c.args.rm) how.0 c.in-Ret.code (c.of.ensures ∙ how.1 c.in-Ret.code)

pub returns-in-None-clause-ok : goal.returns-in-None-clause-ok
returns-in-None-clause-ok g c = λ call is.
    let k = as_book c.args.self.now.ledger in
    let l = line c.args.thread c.args.rm in
    let given : map_answer name_of c.args.answer.now ≡ Ret c.in-Ret.code = ap (map_answer name_of) c.in-Ret.is in
    quiet_code (map_call name_of c.args.call.now) call k l c.in-Ret.code (sym c.in-None.ensures) is ∙ ap (λ a. after k (Heard l call a)) (sym given)

pub returns-in-Some-clause-asks : goal.returns-in-Some-clause-asks
returns-in-Some-clause-asks g c = λ call is.
    let asked = map_call name_of c.args.call.now in
    let b = c.in-Some.b in
    let code = c.in-Ret.code in
    let given : map_answer name_of c.args.answer.now ≡ Ret code = ap (map_answer name_of) c.in-Ret.is in
    let on = call_on asked b call (sym c.in-Some.ensures) is in
    subst (λ d. AsksFor (changed_by d) (g.L.DecisionLog.moment c.args.self.now.log) (g.L.DecisionLog.moment c.hear_news.new.self.log) c.hear_news.result)
    (ap (λ (w : News). recording b w.how) (c.of.ensures ∙ on.news code) ∙ sym (recorded_by_news b on.kind code)
    ∙ ap (λ x. doubt_of (record_of x (Ret code))) on.call ∙ ap (λ a. doubt_of (record_of call a)) (sym given))
    c.hear_news.ensures.asks

use Rattle.xa_server.proofs.server.Server.crash_line.Goals as goal

pub returns-clause-performs : goal.returns-clause-performs
returns-clause-performs g c =
    let call = c.lose-lost in
    record { result = call.result; does = call.ensures.loses.does; told = c.reply_of.ensures; rest = call.ensures.loses.rest }

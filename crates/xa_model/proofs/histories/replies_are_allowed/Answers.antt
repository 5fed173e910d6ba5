use Rattle.xa_model.proofs.Replies.ComputedReplies.{reply, reply_allowed, value, value_is}
use Rattle.xa_model.proofs.Replies.DeterminedReplies.{determined}
use Rattle.xa_model.proofs.Replies.Guards.{refused_in_order_is}
use Rattle.xa_model.proofs.Replies.Replies.{all_right}
use Rattle.xa_model.proofs.histories.replies_are_allowed.Goals as goal

pub returns-clause-replies : goal.returns-clause-replies
returns-clause-replies c tr xs r d = all_right tr xs r d

pub returns-clause-events : goal.returns-clause-events
returns-clause-events c o events r d = all_right _ _ r d

pub returns-clause-order : goal.returns-clause-order
returns-clause-order c tr s = refused_in_order_is tr s

pub returns-clause-answered : goal.returns-clause-answered
returns-clause-answered c tr s = (reply tr s, reply_allowed tr s)

pub returns-clause-valued : goal.returns-clause-valued
returns-clause-valued c tr s = (value tr s, value_is tr s)

pub returns-clause-determined : goal.returns-clause-determined
returns-clause-determined c tr s q r d x y = determined tr s q r d x y

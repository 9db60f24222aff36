-- The token is refused exactly where a response came with the status 401.
use Rattle.std.proofs.Common.{rules}
use Rattle.iso_etcd.proofs.login.is_token_refused.Goals as goal

pub returns-in-Ok : goal.returns-in-Ok
returns-in-Ok c = search rules

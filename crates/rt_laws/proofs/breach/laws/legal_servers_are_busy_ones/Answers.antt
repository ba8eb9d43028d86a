use Rattle.rt_laws.proofs.breach.PlainServers.{plain_servers, plain_misses}
use Rattle.rt_laws.proofs.breach.laws.legal_servers_are_busy_ones.Goals as goal

pub returns-clause-servers : goal.returns-clause-servers
returns-clause-servers c = plain_servers

pub returns-clause-misses : goal.returns-clause-misses
returns-clause-misses c = plain_misses

use Rattle.commit_laws.proofs.Laws.{first_commits_serialize}
use Rattle.commit_laws.proofs.first_commits_serialize.Goals as goal

pub returns : goal.returns
returns c = first_commits_serialize

use Rattle.page_hash.proofs.NameLaws.{finds-find}
use Rattle.page_hash.proofs.PageHash.find.Goals as goal

pub returns-clause-first : goal.returns-clause-first
returns-clause-first c = finds-find c.args.self.now c.args.name c.holder.result c.holder.ensures.one_to_one c.holder.ensures.found

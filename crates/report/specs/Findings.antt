-- A table and what its analysis found, as the listing of a report.
use Rattle.table.specs.Table.{Table}
use Rattle.report.specs.declared.findings.Findings.{Findings}
use Rattle.report.specs.Listed.{Listing, listing}

abbrev pub listing_of : Table → Findings → Listing
listing_of T f =
    listing f.rows T.tasks T.processors f.busy.now f.instances.now f.bounds.now f.chains.now f.slack.now
    T.period T.deadline T.processor T.time f.periods.now f.accepted

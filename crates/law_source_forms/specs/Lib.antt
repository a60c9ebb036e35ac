pub mod LabelsLaw
